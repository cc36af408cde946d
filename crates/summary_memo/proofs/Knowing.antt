-- What a seat knows it keeps.
use Rattle.std.proofs.Common.{List, zero, suc, eqb, ne_eqb, not, true≢false, ⊎_elim, inl, inr, arith, ◌≡◌, ◌≢◌, ℕ, [], ◌∷◌, ◌++◌, sym, ap, ◌∙◌, subst}
use Rattle.std.specs.Prelude.{Contains, IsTrue, ◌↔◌, slice_index, length, ◌<◌, ◌+◌, ◌*◌, ◌/◌, ◌%◌}
use Rattle.std.proofs.lemmas.List.Elements.{Contains-append_left, Contains-append_right, Contains-push, Contains-push_cases}
use mathlib.Core.Logic.{dite}
use native.Mathlib.Decide.{ℕ_discrete}
use Rattle.slicer_ids.specs.declared.ids.ExitId.{ExitId}
use Rattle.slicer_ids.specs.declared.ids.Mode.{Mode}
use Rattle.dep_form.specs.declared.facts.Facts.{Facts}
use Rattle.dep_form.specs.Summaries.{Summary, IsRow}
use Rattle.tabulate.specs.declared.table.Table.{Table}
use Rattle.summary_memo.specs.declared.view.View.{View}
use Rattle.summary_memo.specs.Places.{gate_of, data_of}
use Rattle.summary_memo.specs.Rule.{KnowsShut, KnowsAll, Knows, LooksOnce, AreThere, both}
use Rattle.summary_memo.proofs.Widths.{within_width}

pub more_bits : (v w : View) (x : ℕ × ℕ) → w ≡ record v { bits = v.bits ++ x ∷ [] } → Knows v w
more_bits v w x e = record {
  about = ap (λ (u : View). u.about) e;
  bits = λ y c. subst (λ (u : View). Contains u.bits y) (sym e) (Contains-append_left v.bits (x ∷ []) y c);
  gates = λ y c. subst (λ (u : View). Contains u.gates y) (sym e) c;
}

pub more_gates : (v w : View) (x : ℕ × ℕ) → w ≡ record v { gates = v.gates ++ x ∷ [] } → Knows v w
more_gates v w x e = record {
  about = ap (λ (u : View). u.about) e;
  bits = λ y c. subst (λ (u : View). Contains u.bits y) (sym e) c;
  gates = λ y c. subst (λ (u : View). Contains u.gates y) (sym e) (Contains-append_left v.gates (x ∷ []) y c);
}

-- two seats that are one know what either knew
pub first_knows : (u v w : View) → u ≡ both v w → Knows v u
first_knows u v w e = record {
  about = ap (λ (x : View). x.about) e;
  bits = λ y c. subst (λ (x : View). Contains x.bits y) (sym e) (Contains-append_left v.bits w.bits y c);
  gates = λ y c. subst (λ (x : View). Contains x.gates y) (sym e) (Contains-append_left v.gates w.gates y c);
}

pub second_knows : (u v w : View) → u ≡ both v w → v.about ≡ w.about → Knows w u
second_knows u v w e about = record {
  about = ap (λ (x : View). x.about) e ∙ about;
  bits = λ y c. subst (λ (x : View). Contains x.bits y) (sym e) (Contains-append_right v.bits w.bits y c);
  gates = λ y c. subst (λ (x : View). Contains x.gates y) (sym e) (Contains-append_right v.gates w.gates y c);
}

pub shut_now : (v w : View) (f : Facts) (e : ExitId) (mode : Mode) (n : ℕ) → LooksOnce v f e mode n w → n ≢ 0 → KnowsShut w f e mode
shut_now v w f e mode n is ne =
    (n, subst (λ (u : View). Contains u.gates (gate_of f e mode, n)) (sym is) (Contains-push v.gates (gate_of f e mode, n)), ne)

pub knows_all : (u v w : View) → Knows u v → Knows v w → Knows u w
knows_all u v w a b = record { about = b.about ∙ a.about; bits = λ x c. b.bits x (a.bits x c); gates = λ x c. b.gates x (a.gates x c) }

pub still_shut : (v w : View) (f : Facts) (e : ExitId) (mode : Mode) → Knows v w → KnowsShut v f e mode → KnowsShut w f e mode
still_shut v w f e mode k h = (h.0, k.gates (gate_of f e mode, h.0) h.1, h.2)

-- what is known of exits stays known
pub still_there : (v w : View) (f : Facts) (mode : Mode) (exits : List ExitId) (t : Table) → Knows v w → AreThere v f mode exits t → AreThere w f mode exits t
still_there v w f mode exits t more a = record { each = λ d k. elim (a.each d k) [ inl own ↦ inl own | inr shut ↦ inr (still_shut v w f d mode more shut) ] }

nonzero_true : (n : ℕ) → n ≢ 0 → IsTrue (not (eqb n 0))
nonzero_true n ne = ap not (ne_eqb n 0 ne)

true_nonzero : (n : ℕ) → IsTrue (not (eqb n 0)) → n ≢ 0
true_nonzero zero t = absurd (true≢false (sym t))
true_nonzero (suc n) t = λ e. absurd (omega arith)

pub is_nonzero : (n : ℕ) → IsTrue (not (eqb n 0)) ↔ (n ≢ 0)
is_nonzero n = (true_nonzero n, nonzero_true n)

-- what a look at a gate tells
module _ (v w : View) (f : Facts) (e : ExitId) (mode : Mode) (found word : ℕ) (is : w ≡ record v { gates = v.gates ++ (word, found) ∷ [] }) (here : word ≡ gate_of f e mode)
    (keeps : (was : ℕ) → Contains v.gates (word, was) → was ≢ 0 → found ≢ 0) where
  pub is_known : KnowsShut v f e mode → IsTrue (not (eqb found 0))
  is_known h = nonzero_true found (keeps h.0 (subst (λ (z : ℕ). Contains v.gates (z, h.0)) (sym here) h.1) h.2)

  pub looks_once : LooksOnce v f e mode found w
  looks_once = is ∙ ap (λ (z : ℕ). record v { gates = v.gates ++ (z, found) ∷ [] }) here

  pub is_told : IsTrue (not (eqb found 0)) ↔ KnowsShut w f e mode
  is_told = (
    (λ t. shut_now v w f e mode found looks_once (true_nonzero found t)),
    (λ k. ⊎_elim
        (λ (old : Contains v.gates (gate_of f e mode, k.0)). is_known (k.0, old, k.2))
        (λ (same : (word, found) ≡ (gate_of f e mode, k.0)). nonzero_true found (subst (λ (z : ℕ). z ≢ 0) (sym (ap (λ (p : ℕ × ℕ). p.1) same)) k.2))
        (Contains-push_cases v.gates (word, found) (gate_of f e mode, k.0) (subst (λ (u : View). Contains u.gates (gate_of f e mode, k.0)) is k.1))),
  )

-- the words below k were offered
abbrev pub HasOffered : View → Facts → ExitId → Mode → List ℕ → ℕ → Type 0
HasOffered v f e mode words k = (j : ℕ) → j < k → Contains v.bits (data_of f e mode j, slice_index words j)

pub offered_more : (v w : View) (f : Facts) (e : ExitId) (mode : Mode) (k n : ℕ) (words : List ℕ) → HasOffered v f e mode words k → n ≡ slice_index words k
    → w ≡ record v { bits = v.bits ++ (data_of f e mode k, n) ∷ [] } → HasOffered w f e mode words (k + 1)
offered_more v w f e mode k n words has is same j lt =
    let P : View → Type 0 = λ u. Contains u.bits (data_of f e mode j, slice_index words j) in
    subst P (sym same)
    (dite (ℕ_discrete j k)
    (λ (here : j ≡ k). subst (λ (z : ℕ × ℕ). Contains (v.bits ++ (data_of f e mode k, n) ∷ []) z) (λ i. (data_of f e mode (sym here i), (is ∙ ap (slice_index words) (sym here)) i)) (Contains-push v.bits (data_of f e mode k, n)))
    (λ (other : j ≢ k). Contains-append_left v.bits ((data_of f e mode k, n) ∷ []) (data_of f e mode j, slice_index words j) (has j (omega arith))))

-- a seat that offered all words of a summary knows all its bits
pub knows_summary : (v : View) (f : Facts) (e : ExitId) (mode : Mode) (words : List ℕ) → IsRow f mode e words → HasOffered v f e mode words (length words) → KnowsAll v f e mode
knows_summary v f e mode words row has i in_it =
    let k : ℕ = i / 64 in let b : ℕ = i % 64 in
    let small : b < 64 = omega arith in
    let inside : k < length words = within_width f e mode i (length words) row.size in_it in
    let same : 64 * k + b ≡ i = omega arith in
    (slice_index words k, has k inside, (row.masks k inside b small).1 (subst (λ (z : ℕ). Summary f mode e z) (sym same) in_it))

-- Each step keeps the rule.
use Rattle.std.proofs.Common.{◌≡◌, ◌≢◌, ◌⊎◌, ℕ, ◌+◌, ◌*◌, ◌/◌, ◌%◌, ◌<◌, List, [], ◌∷◌, ◌++◌, length, set, bit_or, get_or, Option, Some, refl, sym, ap, ◌∙◌, subst, ⊎_elim, arith, length-set, get_or-set_same, get_or-set_other}
use Rattle.std.specs.Prelude.{Contains, slice_index, unwrap_or}
use Rattle.std.specs.Int.{bit_at}
use Rattle.std.proofs.lemmas.Nat.{le_or_l, le_or_r}
use Rattle.std.proofs.lemmas.Nat.Bits.{bit_at_or, bit_at-lt}
use Rattle.std.proofs.lemmas.List.Elements.{Contains-push_cases, Contains-append_cases}
use Rattle.std.proofs.lemmas.List.{get_or_default}
use Rattle.std.proofs.lemmas.Option.{none-some}
use mathlib.Core.Logic.{dite}
use native.Mathlib.Decide.{ℕ_discrete}
use mathlib.Core.Option.{none, some}
use lib.ListN.{get_elem?}
use Rattle.atomic_table.specs.Table.{State, Me, step, keeps, Allows, Splits, Joins}
use Rattle.atomic_table.proofs.Lists.{at_set, at_index, at_snoc, set_again}
use Rattle.slicer_ids.specs.declared.ids.ExitId.{ExitId}
use Rattle.slicer_ids.specs.declared.ids.Mode.{Mode}
use Rattle.dep_form.specs.declared.facts.Facts.{Facts}
use Rattle.dep_form.specs.Summaries.{Summary, IsMask}
use Rattle.summary_memo.specs.declared.view.View.{View}
use Rattle.summary_memo.specs.Places.{gate_of, data_of, width}
use Rattle.summary_memo.specs.Rule.{spent, both, KnowsShut, KnowsAll, IsTold, IsKept, Looked, Masked, Offered, Shutted}
use Rattle.summary_memo.proofs.Apart.{gate_in, data_in, past_none, same_gate, same_data, gate_is_no_data}

abbrev St : Type 0
St = State (Unit {0}) View

abbrev Sat : Type 0
Sat = Me (Unit {0}) View

-- words that lost no bit
record Grows (xs ys : List ℕ) : Type 0 where
  sized : length ys ≡ length xs
  bits : (w b : ℕ) → bit_at (slice_index xs w) b ≡ 1 → bit_at (slice_index ys w) b ≡ 1
  shut : (w : ℕ) → slice_index xs w ≢ 0 → slice_index ys w ≢ 0

or_keeps : (n k b : ℕ) → bit_at n b ≡ 1 → bit_at (bit_or n k) b ≡ 1
or_keeps n k b e = let m = bit_at_or n k b in let a = bit_at-lt k b in grind arith

or_adds : (n k b : ℕ) → bit_at k b ≡ 1 → bit_at (bit_or n k) b ≡ 1
or_adds n k b e = let m = bit_at_or n k b in let a = bit_at-lt n b in grind arith

or_cases : (n k b : ℕ) → bit_at (bit_or n k) b ≡ 1 → (bit_at n b ≡ 1) ⊎ (bit_at k b ≡ 1)
or_cases n k b e = let m = bit_at_or n k b in let a = bit_at-lt n b in let c = bit_at-lt k b in grind arith

-- a fact of the words after a write: of the word written, and of each other
written : (xs : List ℕ) (i n j : ℕ) (P : ℕ → Type 0) → i < length xs → (j ≡ i → P n) → (j ≢ i → P (slice_index xs j)) → P (slice_index (set xs i n) j)
written xs i n j P lt hit miss =
    dite (ℕ_discrete j i)
    (λ (e : j ≡ i). subst (λ (z : ℕ). P (slice_index (set xs i n) z)) (sym e) (subst P (sym (get_or-set_same xs i n 0 lt)) (hit e)))
    (λ (ne : j ≢ i). subst P (sym (get_or-set_other xs i j n 0 ne)) (miss ne))

or_grows : (xs : List ℕ) (i k : ℕ) → i < length xs → Grows xs (set xs i (bit_or (slice_index xs i) k))
or_grows xs i k lt = record {
  sized = length-set xs i (bit_or (slice_index xs i) k);
  bits = λ w b h. written xs i (bit_or (slice_index xs i) k) w (λ n. bit_at n b ≡ 1) lt
      (λ e. or_keeps (slice_index xs i) k b (subst (λ (z : ℕ). bit_at (slice_index xs z) b ≡ 1) e h))
      (λ _. h);
  shut = λ w h. written xs i (bit_or (slice_index xs i) k) w (λ n. n ≢ 0) lt
      (λ e. let was : slice_index xs i ≢ 0 = subst (λ (z : ℕ). slice_index xs z ≢ 0) e h in let up = le_or_l (slice_index xs i) k in λ z. was (omega arith))
      (λ _. h);
}

told_grows : (f : Facts) (xs ys : List ℕ) (v : View) → Grows xs ys → IsTold f xs v → IsTold f ys v
told_grows f xs ys v g t = record { about = t.about; bits = λ w b k. g.bits w b (t.bits w b k); shut = λ w n c ne. g.shut w (t.shut w n c ne) }

abbrev ZeroFirst : List ℕ → Type 0
ZeroFirst ys = slice_index ys 0 ≡ 0

abbrev Within : Facts → List ℕ → Type 0
Within f ys = (e : ExitId) (mode : Mode) (k b : ℕ) → e.0 < length f.exits → k < width f e → b < 64 → bit_at (slice_index ys (data_of f e mode k)) b ≡ 1 → Summary f mode e (64 * k + b)

abbrev Whole : Facts → List ℕ → Type 0
Whole f ys = (e : ExitId) (mode : Mode) (i : ℕ) → e.0 < length f.exits → slice_index ys (gate_of f e mode) ≢ 0 → Summary f mode e i → bit_at (slice_index ys (data_of f e mode (i / 64))) (i % 64) ≡ 1

-- the rule after a step: of the words, and of the view of the seat that stepped
moved : (f : Facts) (s : St) (ys : List ℕ) (id : ℕ) (w : View) → IsKept f s → Grows s.words ys → ZeroFirst ys → Within f ys → Whole f ys
    → IsTold f ys w → IsKept f record { words = ys; homes = s.homes; views = set s.views id w }
moved f s ys id w r g first within whole mine = record {
  sized = g.sized ∙ r.sized;
  zeroth = first;
  within = within;
  whole = whole;
  views = λ j u at. ⊎_elim
      (λ (t : (j ≡ id) × (w ≡ u)). subst (λ (x : View). IsTold f ys x) t.1 mine)
      (λ (t : (j ≢ id) × (get_elem? s.views j ≡ some u)). told_grows f s.words ys u g (r.views j u t.1))
      (at_set s.views id j w u at);
}

same_words : (xs : List ℕ) (i : ℕ) → i < length xs → set xs i (slice_index xs i) ≡ xs
same_words xs i lt = set_again xs i (get_or xs i 0) (at_index xs i (get_or xs i 0) lt (get_or_default xs i 0 (get_or xs i 0) lt))

-- a load changes a view alone
loaded : (f : Facts) (s : St) (i id : ℕ) (w : View) → i < length s.words → IsKept f s → IsTold f s.words w
    → IsKept f record { words = set s.words i (slice_index s.words i); homes = s.homes; views = set s.views id w }
loaded f s i id w lt r mine =
    subst (λ (ys : List ℕ). IsKept f record { words = ys; homes = s.homes; views = set s.views id w }) (sym (same_words s.words i lt))
    (moved f s s.words id w r (record { sized = refl; bits = λ _ _ h. h; shut = λ _ h. h }) r.zeroth r.within r.whole mine)

-- a view with one more word found
tells_bits : (f : Facts) (xs : List ℕ) (v : View) (i m : ℕ) → IsTold f xs v → ((b : ℕ) → bit_at m b ≡ 1 → bit_at (slice_index xs i) b ≡ 1)
    → IsTold f xs (record v { bits = v.bits ++ (i, m) ∷ [] })
tells_bits f xs v i m t new = record {
  about = t.about;
  bits = λ w b k. ⊎_elim
      (λ (c : Contains v.bits (w, k.0)). t.bits w b (k.0, c, k.2))
      (λ (e : (i, m) ≡ (w, k.0)). subst (λ (z : ℕ). bit_at (slice_index xs z) b ≡ 1) (ap (λ (p : ℕ × ℕ). p.0) e)
      (new b (subst (λ (z : ℕ). bit_at z b ≡ 1) (sym (ap (λ (p : ℕ × ℕ). p.1) e)) k.2)))
      (Contains-push_cases v.bits (i, m) (w, k.0) k.1);
  shut = t.shut;
}

tells_gate : (f : Facts) (xs : List ℕ) (v : View) (i m : ℕ) → IsTold f xs v → (m ≢ 0 → slice_index xs i ≢ 0)
    → IsTold f xs (record v { gates = v.gates ++ (i, m) ∷ [] })
tells_gate f xs v i m t new = record {
  about = t.about;
  bits = t.bits;
  shut = λ w n c ne. ⊎_elim
      (λ (d : Contains v.gates (w, n)). t.shut w n d ne)
      (λ (e : (i, m) ≡ (w, n)). subst (λ (z : ℕ). slice_index xs z ≢ 0) (ap (λ (p : ℕ × ℕ). p.0) e) (new (subst (λ (z : ℕ). z ≢ 0) (sym (ap (λ (p : ℕ × ℕ). p.1) e)) ne)))
      (Contains-push_cases v.gates (i, m) (w, n) c);
}

pub looks : (f : Facts) (slots id : ℕ) (me : Sat) (e : ExitId) (mode : Mode) (word : ℕ) → e.0 < length f.exits → word ≡ gate_of f e mode
    → Allows (IsKept f) slots id me word (λ n. n) (Looked (step slots word 0 0 none) me)
looks f slots id me e mode word lt is s k _ at _ =
    let found : ℕ = slice_index s.words word in
    let w : View = record me.0 { gates = me.0.gates ++ (word, found) ∷ [] } in
    let size = k.sized in let here = gate_in f e mode lt in
    (w, keeps, tt, loaded f s word id w (omega arith) k (tells_gate f s.words me.0 word found (k.views id me.0 at) (λ h. h)), (refl, λ was c ne. (k.views id me.0 at).shut word was c ne))

-- two views of one table are about the same facts
same_facts : (f g : Facts) (xs : List ℕ) (v : View) → IsTold f xs v → v.about ≡ Some g → g ≡ f
same_facts f g xs v t is = ap (λ (o : Option Facts). unwrap_or o f) (sym is ∙ t.about (λ n. none-some g (sym n ∙ is)))

-- formal 64 * k + b of a row stands in its word k, at bit b
place_of : (k b : ℕ) → b < 64 → ((64 * k + b) / 64 ≡ k) × ((64 * k + b) % 64 ≡ b)
place_of k b lt = (omega arith, omega arith)

-- a word of a row that is known shut is that of the summary
is_mask : (f : Facts) (s : St) (v : View) (e : ExitId) (mode : Mode) (k : ℕ) → IsKept f s → IsTold f s.words v → e.0 < length f.exits → k < width f e
    → KnowsShut v f e mode → IsMask f mode e k (slice_index s.words (data_of f e mode k))
is_mask f s v e mode k kept t lt in_row shut = λ b small. (
  kept.within e mode k b lt in_row small,
  λ has. let p = place_of k b small in
      subst (λ (z : ℕ × ℕ). bit_at (slice_index s.words (data_of f e mode z.0)) z.1 ≡ 1) (λ i. (p.0 i, p.1 i)) (kept.whole e mode (64 * k + b) lt (t.shut (gate_of f e mode) shut.0 shut.1 shut.2) has),
)

pub masks : (f : Facts) (slots id : ℕ) (me : Sat) (e : ExitId) (mode : Mode) (k word : ℕ) → e.0 < length f.exits → k < width f e → word ≡ data_of f e mode k
    → Allows (IsKept f) slots id me word (λ n. n) (Masked (step slots word 0 0 none) me)
masks f slots id me e mode k word lt in_row is s kept _ at _ =
    let found : ℕ = slice_index s.words word in
    let w : View = record me.0 { bits = me.0.bits ++ (word, found) ∷ [] } in
    let size = kept.sized in let here = data_in f e mode k lt in_row in
    let mine = kept.views id me.0 at in (
      w,
      keeps,
      tt,
      loaded f s word id w (omega arith) kept (tells_bits f s.words me.0 word found mine (λ b h. h)),
      (
        refl,
        λ g d m j about there lt' in_row' shut.
            let same : f ≡ g = sym (same_facts f g s.words me.0 mine about) in
            let P : Facts → Type 0 = λ h. word ≡ data_of h d m j → d.0 < length h.exits → j < width h d → KnowsShut me.0 h d m → IsMask h m d j found in
            subst P same
            (λ there in_f in_row_f shut_f. subst (λ (z : ℕ). IsMask f m d j (slice_index s.words z)) (sym there) (is_mask f s me.0 d m j kept mine in_f in_row_f shut_f))
            there lt' in_row' shut,
      ),
    )

-- a write past word 0 leaves that word
none_stays : (f : Facts) (s : St) (i n : ℕ) → IsKept f s → 0 < i → slice_index (set s.words i n) 0 ≡ 0
none_stays f s i n kept past = get_or-set_other s.words i 0 n 0 (λ z. absurd (omega arith)) ∙ kept.zeroth

pub offers : (f : Facts) (slots id : ℕ) (me : Sat) (e : ExitId) (mode : Mode) (k word bits : ℕ) → e.0 < length f.exits → k < width f e → word ≡ data_of f e mode k
    → ((b : ℕ) → b < 64 → bit_at bits b ≡ 1 → Summary f mode e (64 * k + b))
    → Allows (IsKept f) slots id me word (λ n. bit_or n bits) (Offered (step slots word bits 0 none) me)
offers f slots id me e mode k word bits lt in_row is may s kept _ at _ =
    let n : ℕ = bit_or (slice_index s.words word) bits in
    let ys : List ℕ = set s.words word n in
    let w : View = record me.0 { bits = me.0.bits ++ (word, bits) ∷ [] } in
    let size = kept.sized in let here = data_in f e mode k lt in_row in
    let there : word < length s.words = omega arith in
    let g = or_grows s.words word bits there in (
      w,
      keeps,
      tt,
      moved f s ys id w kept g (none_stays f s word n kept (omega arith))
          (λ d m j b lt' in_row' small. written s.words word n (data_of f d m j) (λ x. bit_at x b ≡ 1 → Summary f m d (64 * j + b)) there
          (λ same. let row = same_data f d e m mode j k lt' lt in_row' in_row (same ∙ is) in
          λ h. ⊎_elim
          (λ old. kept.within d m j b lt' in_row' small (subst (λ (z : ℕ). bit_at (slice_index s.words z) b ≡ 1) (sym same) old))
          (λ new. subst (λ (z : ExitId × Mode × ℕ). Summary f z.1 z.0 (64 * z.2 + b)) (λ i. (sym row.0 i, sym row.1 i, sym row.2 i)) (may b small new))
          (or_cases (slice_index s.words word) bits b h))
          (λ _ h. kept.within d m j b lt' in_row' small h))
          (λ d m i lt'. written s.words word n (gate_of f d m) (λ x. x ≢ 0 → Summary f m d i → bit_at (slice_index ys (data_of f d m (i / 64))) (i % 64) ≡ 1) there
          (λ same. absurd (gate_is_no_data f d e m mode k lt' lt in_row (same ∙ is)))
          (λ _ shut in_it. g.bits (data_of f d m (i / 64)) (i % 64) (kept.whole d m i lt' shut in_it)))
          (tells_bits f ys me.0 word bits (told_grows f s.words ys me.0 g (kept.views id me.0 at))
          (λ b h. subst (λ (z : ℕ). bit_at z b ≡ 1) (sym (get_or-set_same s.words word n 0 there)) (or_adds (slice_index s.words word) bits b h))),
      refl,
    )

pub shuts : (f : Facts) (slots id : ℕ) (me : Sat) (e : ExitId) (mode : Mode) (word : ℕ) → e.0 < length f.exits → word ≡ gate_of f e mode → KnowsAll me.0 f e mode
    → Allows (IsKept f) slots id me word (λ n. bit_or n 1) (Shutted (step slots word 1 0 none) me)
shuts f slots id me e mode word lt is all s kept _ at _ =
    let n : ℕ = bit_or (slice_index s.words word) 1 in
    let ys : List ℕ = set s.words word n in
    let w : View = record me.0 { gates = me.0.gates ++ (word, 1) ∷ [] } in
    let size = kept.sized in let here = gate_in f e mode lt in
    let there : word < length s.words = omega arith in
    let past = past_none f e mode in
    let g = or_grows s.words word 1 there in
    let mine = kept.views id me.0 at in (
      w,
      keeps,
      tt,
      moved f s ys id w kept g (none_stays f s word n kept (omega arith))
          (λ d m j b lt' in_row' small. written s.words word n (data_of f d m j) (λ x. bit_at x b ≡ 1 → Summary f m d (64 * j + b)) there
          (λ same. absurd (gate_is_no_data f e d mode m j lt lt' in_row' (sym is ∙ sym same)))
          (λ _ h. kept.within d m j b lt' in_row' small h))
          (λ d m i lt'. written s.words word n (gate_of f d m) (λ x. x ≢ 0 → Summary f m d i → bit_at (slice_index ys (data_of f d m (i / 64))) (i % 64) ≡ 1) there
          (λ same. let row = same_gate f d e m mode lt' lt (same ∙ is) in
          λ _ in_it. g.bits (data_of f d m (i / 64)) (i % 64)
          (subst (λ (z : ExitId × Mode). bit_at (slice_index s.words (data_of f z.0 z.1 (i / 64))) (i % 64) ≡ 1) (λ t. (sym row.0 t, sym row.1 t))
          (mine.bits (data_of f e mode (i / 64)) (i % 64) (all i (subst (λ (z : ExitId × Mode). Summary f z.1 z.0 i) (λ t. (row.0 t, row.1 t)) in_it)))))
          (λ _ shut in_it. g.bits (data_of f d m (i / 64)) (i % 64) (kept.whole d m i lt' shut in_it)))
          (tells_gate f ys me.0 word 1 (told_grows f s.words ys me.0 g mine)
          (λ _. let up = le_or_r (slice_index s.words word) 1 in let new = get_or-set_same s.words word n 0 there in λ z. absurd (omega arith))),
      refl,
    )

pub splits : (f : Facts) (id : ℕ) (v : View) → Splits (IsKept f) id v v v
splits f id v s r at = record {
  sized = r.sized;
  zeroth = r.zeroth;
  within = r.within;
  whole = r.whole;
  views = λ j u h. ⊎_elim
      (λ was. r.views j u (subst (λ (l : List View). get_elem? l j ≡ some u) (set_again s.views id v at) was))
      (λ (same : v ≡ u). subst (λ (x : View). IsTold f s.words x) same (r.views id v at))
      (at_snoc (set s.views id v) v u j h);
}

nothing : (x : ℕ × ℕ) → Contains [] x → ⊥
nothing x c = let lt = c.1 in omega arith

spent_told : (f : Facts) (xs : List ℕ) → IsTold f xs spent
spent_told f xs = record { about = λ n. absurd (n refl); bits = λ w b k. absurd (nothing (w, k.0) k.1); shut = λ w n c. absurd (nothing (w, n) c) }

both_told : (f : Facts) (xs : List ℕ) (v w : View) → IsTold f xs v → IsTold f xs w → IsTold f xs (both v w)
both_told f xs v w t u = record {
  about = t.about;
  bits = λ i b k. ⊎_elim (λ (c : Contains v.bits (i, k.0)). t.bits i b (k.0, c, k.2)) (λ (c : Contains w.bits (i, k.0)). u.bits i b (k.0, c, k.2)) (Contains-append_cases v.bits w.bits (i, k.0) k.1);
  shut = λ i n c ne. ⊎_elim (λ (d : Contains v.gates (i, n)). t.shut i n d ne) (λ (d : Contains w.gates (i, n)). u.shut i n d ne) (Contains-append_cases v.gates w.gates (i, n) c);
}

pub joins : (f : Facts) (id : ℕ) (v : View) (other : ℕ) (w : View) → Joins (IsKept f) id v other w (both v w) spent
joins f id v other w s r at apart there =
    let theirs = ⊎_elim (λ (t : (other ≡ id) × (both v w ≡ w)). absurd (apart t.0)) (λ (t : (other ≢ id) × (get_elem? s.views other ≡ some w)). r.views other w t.1) (at_set s.views id other (both v w) w there) in
    record {
      sized = r.sized;
      zeroth = r.zeroth;
      within = r.within;
      whole = r.whole;
      views = λ j u h. ⊎_elim
          (λ (t : (j ≡ other) × (spent ≡ u)). subst (λ (x : View). IsTold f s.words x) t.1 (spent_told f s.words))
          (λ (t : (j ≢ other) × (get_elem? (set s.views id (both v w)) j ≡ some u)). ⊎_elim
          (λ (q : (j ≡ id) × (both v w ≡ u)). subst (λ (x : View). IsTold f s.words x) q.1 (both_told f s.words v w (r.views id v at) theirs))
          (λ (q : (j ≢ id) × (get_elem? s.views j ≡ some u)). r.views j u q.1)
          (at_set s.views id j (both v w) u t.1))
          (at_set (set s.views id (both v w)) other j spent u h);
    }

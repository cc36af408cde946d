-- The statements that have nodes, and the lines of statements, are among those of a list.
use Rattle.std.proofs.Common.{◌≡◌, ◌+◌, ◌++◌, ℕ, zero, suc, List, [], ◌∷◌, map, Option, Some, None, Contains, refl, sym, ap, subst, inl, inr, arith}
use Rattle.std.specs.Prelude.{slice_get, unwrap_or}
use Rattle.std.proofs.lemmas.Option.{same_Some}
use Rattle.std.proofs.lemmas.List.Elements.{Contains-append_left, Contains-append_right}
use Rattle.slicer_ids.specs.declared.ids.NodeId.{NodeId}
use Rattle.slicer_ids.specs.declared.ids.Statement.{Statement}
use Rattle.dep_form.specs.declared.node.Node.{Node}
use Rattle.dep_form.specs.declared.input.MethodInput.{MethodInput}
use Rattle.dep_form.specs.declared.texts.MethodText.{MethodText}
use Rattle.dep_form.specs.declared.facts.Facts.{Facts}
use Rattle.dep_form.specs.Nodes.{pc_of}
use Rattle.dep_form.specs.Inputs.{BelongsTo}
use Rattle.dep_form.specs.LookUps.{HasLine}
use Rattle.report.specs.declared.reply.LinePlace.{LinePlace}
use Rattle.session_form.proofs.SomePlaces.{is_statement}
use Rattle.slicer_ids.proofs.Ordering.{Decided}
use Rattle.slicer_ids.proofs.Ordered.{Contains-cons_cases}

there_at : {A : Type 0} (xs : List A) (k : ℕ) (x : A) → slice_get xs k ≡ Some x → Contains xs x
there_at [] k x e = absurd (cc e)
there_at (y ∷ xs) zero x e = (0, omega arith, same_Some y x e)
there_at (y ∷ xs) (suc k) x e = let c = there_at xs k x e in (suc c.0, omega (arith, c.1), c.2)

pub image : {A B : Type 0} (f : A → B) (xs : List A) (x : A) → Contains xs x → Contains (map f xs) (f x)
image f [] x c = absurd (omega (arith, c.1))
image f (y ∷ xs) x (zero, lt, e) = (0, omega arith, ap f e)
image f (y ∷ xs) x (suc k, lt, e) = let c = image f xs x (k, omega (arith, lt), e) in (suc c.0, omega (arith, c.1), c.2)

-- ---- the rows of a table, each with its number
module _ {A B : Type 0} (row : ℕ → A → List B) where
  rows : ℕ → List A → List B
  rows n [] = []
  rows n (x ∷ xs) = row n x ++ rows (suc n) xs

  in_rows : (n : ℕ) (xs : List A) (k : ℕ) (x : A) (b : B) (m : ℕ) → slice_get xs k ≡ Some x → m ≡ n + k → Contains (row m x) b → Contains (rows n xs) b
  unfolding rows
  in_rows n [] k x b m e number c = absurd (cc e)
  in_rows n (y ∷ xs) zero x b m e number c =
      let first : m ≡ n = omega (arith, number) in
      let same : y ≡ x = same_Some y x e in
      Contains-append_left (row n y) (rows (suc n) xs) b (subst (λ z. Contains (row n z) b) (sym same) (subst (λ j. Contains (row j x) b) first c))
  in_rows n (y ∷ xs) (suc k) x b m e number c = Contains-append_right (row n y) (rows (suc n) xs) b (in_rows (suc n) xs k x b m e (omega (arith, number)) c)

-- ---- statements
of_node : ℕ → Node → Statement
of_node m k = record { method = record { 0 = m }; pc = unwrap_or (pc_of k) 0 }

of_input : ℕ → Option MethodInput → List Statement
of_input m None = []
of_input m (Some i) = map (of_node m) i.nodes

pub statements : Facts → List Statement
statements f = rows of_input 0 f.inputs

pub is_there : (f : Facts) (n : NodeId) (s : Statement) → BelongsTo f.inputs n s → Contains (statements f) s
unfolding statements of_input of_node
is_there f n s (k, (i, input, (le, at)), pc, lt) =
    let same : of_node s.method.0 k ≡ s = is_statement (of_node s.method.0 k) s refl (ap (λ o. unwrap_or o 0) pc) in
    let c = image (of_node s.method.0) i.nodes k (there_at i.nodes _ k at) in
    in_rows of_input 0 f.inputs s.method.0 (Some i) s s.method.0 input (omega arith) (subst (Contains (map (of_node s.method.0) i.nodes)) same c)

-- ---- lines
of_pair : ℕ → ℕ × Option ℕ → LinePlace
of_pair m x = record { method = record { 0 = m }; line = x.1 }

of_text : ℕ → MethodText → List LinePlace
of_text m t = map (of_pair m) t.lines

pub lines : Facts → List LinePlace
lines f = rows of_text 0 f.methods

pub line_there : (f : Facts) (l : LinePlace) (s : Statement) → l.method ≡ s.method → HasLine f s l.line → Contains (lines f) l
unfolding lines of_text of_pair
line_there f l s e (t, text, (k, x, at, pc, line)) =
    let same : of_pair l.method.0 x ≡ l = ap (λ (o : Option ℕ). record { method = l.method; line = o }) line in
    let c = image (of_pair l.method.0) t.lines x (there_at t.lines k x at) in
    in_rows of_text 0 f.methods l.method.0 t l l.method.0 (subst (λ m. slice_get f.methods m.0 ≡ Some t) (sym e) text) (omega arith) (subst (Contains (map (of_pair l.method.0) t.lines)) same c)

-- ---- for finitely many items it isn't the case that one of them neither is nor isn't a member
pub decided : {A : Type 0} (P : A → Type 0) (xs : List A) → (((x : A) → Contains xs x → Decided (P x)) → ⊥) → ⊥
decided P [] none = none (λ x c. absurd (omega (arith, c.1)))
decided P (y ∷ xs) none = decided P xs (λ rest. either (λ d. none (λ x c. elim (Contains-cons_cases y x xs c) [ inl e ↦ subst (λ z. Decided (P z)) e d | inr more ↦ rest x more ])))
  where
    either : (Decided (P y) → ⊥) → ⊥
    either never = never (inr (λ p. never (inl p)))

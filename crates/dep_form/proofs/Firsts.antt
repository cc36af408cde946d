-- How the nodes of the inputs are numbered.
use Rattle.std.proofs.Common.{◌≡◌, ◌<◌, ◌≤◌, ◌+◌, ◌-◌, ℕ, zero, suc, List, [], ◌∷◌, ◌++◌, ◌⊎◌, length, take, get_or, Bool, true, false, cond, Option, Some, None, refl, sym, subst, ap, ◌∙◌, inl, inr, arith, leb, leb-true}
use Rattle.std.specs.Prelude.{slice_get, count_by}
use Rattle.std.proofs.lemmas.Bool.{cases_lt, false≢true, le-leb}
use Rattle.std.proofs.lemmas.Option.{slice_get_within, slice_get-get_or, slice_get_cases, get_or_from_slice_get, same_Some}
use Rattle.std.proofs.lemmas.List.Sums.{sum_by_more, sum_by-cons}
use Rattle.std.proofs.lemmas.List.{take_all}
use Rattle.std.specs.List.Sorted.{IsNonDecreasingBy, IsPartitionPoint}
use Rattle.dep_form.specs.declared.input.MethodInput.{MethodInput}
use Rattle.dep_form.specs.declared.facts.Facts.{Facts}
use Rattle.dep_form.specs.Firsts.{node_count, nodes_in}
use Rattle.slicer_ids.specs.declared.ids.NodeId.{NodeId}
use Rattle.slicer_ids.specs.declared.ids.MethodId.{MethodId}
use Rattle.dep_form.specs.LookUps.{IsMethodOfNode}

pub count_next : (inputs : List (Option MethodInput)) (m : ℕ) (o : Option MethodInput) → slice_get inputs m ≡ Some o → node_count (take (m + 1) inputs) ≡ node_count (take m inputs) + nodes_in o
count_next inputs m o at =
    sum_by_more nodes_in inputs m o (slice_get_within inputs m o at) ∙ ap (λ x. node_count (take m inputs) + nodes_in x) (get_or_from_slice_get inputs m o o at)

count_step : (inputs : List (Option MethodInput)) (k : ℕ) → node_count (take k inputs) ≤ node_count (take (k + 1) inputs)
count_step inputs k = elim (slice_get_cases inputs k).1 [
  | inl c ↦ omega (arith, count_next inputs k c.0 c.2)
  | inr c ↦ let le : length inputs ≤ k + 1 = omega (arith, c.0) in omega (arith, ap node_count (take_all k inputs c.0), ap node_count (take_all (k + 1) inputs le))
]

rises_by : (inputs : List (Option MethodInput)) (d j k : ℕ) → k ≡ j + d → node_count (take j inputs) ≤ node_count (take k inputs)
rises_by inputs zero j k e = let same : j ≡ k = omega arith in subst (λ n. node_count (take j inputs) ≤ node_count (take n inputs)) same (omega arith)
rises_by inputs (suc d) j k e =
    let before = rises_by inputs d j (j + d) refl in
    let step = count_step inputs (j + d) in
    let is : (j + d) + 1 ≡ k = omega arith in
    subst (λ n. node_count (take j inputs) ≤ node_count (take n inputs)) is (omega (arith, before, step))

pub count_rises : (inputs : List (Option MethodInput)) (j k : ℕ) → j ≤ k → node_count (take j inputs) ≤ node_count (take k inputs)
count_rises inputs j k le = rises_by inputs (k - j) j k (omega arith)

-- the nodes of a method come before those of later ones
pub apart : (f : Facts) (j k : ℕ) (a b : MethodInput) → j < k → slice_get f.inputs j ≡ Some (Some a) → slice_get f.inputs k ≡ Some (Some b) → a.first.0 + length a.nodes ≤ b.first.0
apart f j k a b lt x y =
    omega (arith, (f.follow_on j a x).1, (f.follow_on k b y).1, count_next f.inputs j (Some a) x, count_rises f.inputs (j + 1) k (omega arith))

-- the first numbers rise
pub firsts_rise : (f : Facts) → IsNonDecreasingBy (λ n. n) f.firsts
firsts_rise f = λ i j d le lt.
    let x = f.firsts_are i (get_or f.firsts i d) (slice_get-get_or f.firsts i d (omega arith)) in
    let y = f.firsts_are j (get_or f.firsts j d) (slice_get-get_or f.firsts j d lt) in
    omega (arith, x, y, count_rises f.inputs i j le)

-- an item of a list with one more at its end
pub pushed : {X : Type 0} (xs : List X) (y x : X) (k : ℕ) → slice_get (xs ++ y ∷ []) k ≡ Some x → (slice_get xs k ≡ Some x) ⊎ ((k ≡ length xs) × (x ≡ y))
pushed [] y x zero e = inr (refl, sym (same_Some y x e))
pushed [] y x (suc k) e = absurd cc
pushed (z ∷ xs) y x zero e = inl e
pushed (z ∷ xs) y x (suc k) e = elim (pushed xs y x k e) [ inl h ↦ inl h | inr h ↦ inr (omega (arith, h.0), h.1) ]

-- of a test that a list passes up to a place and fails from there on, as many pass as lie before
pub counted : {X : Type 0} (p : X → Bool) (xs : List X) (i : ℕ) → i ≤ length xs → IsPartitionPoint (λ y. p y ≡ true) (λ y. p y ≡ false) xs i → count_by p xs ≡ i
counted p [] i le h = omega arith
counted p (x ∷ xs) zero le h =
    let no : ◌≡◌ {A = ℕ} (cond (p x) 1 0) 0 = rw (h.1 zero x (omega arith) (omega arith)) refl in
    let rest = counted p xs zero (omega arith) (λ k d a b. absurd (omega (arith, b)), λ k d a b. h.1 (suc k) d (omega arith) (omega (arith, b))) in
    omega (arith, sum_by-cons (λ y. cond (p y) 1 0) x xs, no, rest)
counted p (x ∷ xs) (suc i) le h =
    let yes : ◌≡◌ {A = ℕ} (cond (p x) 1 0) 1 = rw (h.0 zero x (omega arith) (omega arith)) refl in
    let rest = counted p xs i (omega (arith, le)) (λ k d a b. h.0 (suc k) d (omega arith) (omega (arith, b)), λ k d a b. h.1 (suc k) d (omega (arith, a)) (omega (arith, b))) in
    omega (arith, sum_by-cons (λ y. cond (p y) 1 0) x xs, yes, rest)

module _ (f : Facts) (n : NodeId) (p : ℕ) (bound : p ≤ length f.firsts) (h : IsPartitionPoint (λ (y : ℕ). leb y n.0 ≡ true) (λ (y : ℕ). leb y n.0 ≡ false) f.firsts p) where
  -- the method with the node is the last that begins at or before it
  pub last_before : (m : MethodId) → IsMethodOfNode f.inputs n m → p ≡ m.0 + 1
  last_before m (None, at, has) = absurd has
  last_before m (Some i, at, has) =
      let lt : m.0 < length f.firsts = omega (arith, slice_get_within f.inputs m.0 (Some i) at, f.a_first_each) in
      let start : get_or f.firsts m.0 0 ≡ i.first.0 = f.firsts_are m.0 _ (slice_get-get_or f.firsts m.0 0 lt) ∙ sym (f.follow_on m.0 i at).1 in
      elim (cases_lt m.0 p) [
        | inl before ↦ elim (cases_lt (m.0 + 1) p) [
          | inl next ↦ absurd (later i at has (omega arith) next)
          | inr ge ↦ omega arith
        ]
        | inr past ↦ absurd (false≢true (sym (h.1 m.0 0 past lt) ∙ le-leb _ _ (omega (arith, start, has.0))))
      ]
    where
      later : (i : MethodInput) → slice_get f.inputs m.0 ≡ Some (Some i) → (i.first.0 ≤ n.0) × (n.0 < i.first.0 + length i.nodes) → m.0 < length f.firsts → m.0 + 1 < p → ⊥
      later i at has lt next =
          let inside : m.0 + 1 < length f.firsts = omega arith in
          omega (arith, leb-true _ _ (h.0 (m.0 + 1) 0 (omega arith) next), f.firsts_are (m.0 + 1) _ (slice_get-get_or f.firsts (m.0 + 1) 0 inside), count_next f.inputs m.0 (Some i) at, (f.follow_on m.0 i at).1, has.1)

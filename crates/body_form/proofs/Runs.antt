-- In a table of places in order those of one place stand together.
use Rattle.std.proofs.Common.{◌≡◌, ◌<◌, ◌≤◌, ℕ, zero, suc, List, [], ◌∷◌, length, Some, ◌⊎◌, inl, inr, refl, sym, ap, subst, ◌∙◌, arith}
use Rattle.std.specs.Prelude.{slice_get}
use Rattle.std.specs.List.{slice_range}
use Rattle.std.proofs.lemmas.Bool.{cases_lt, cases_order}
use Rattle.std.proofs.lemmas.Option.{same_Some}
use Rattle.class_form.specs.declared.reach.Reach.{Reach}
use Rattle.class_form.specs.Reaches.{AreDefsAt}
use Rattle.class_form.proofs.Indices.{index_at}

-- by program counter, then by slot
abbrev pub PlaceBefore : ℕ × ℕ → ℕ × ℕ → Type 0
PlaceBefore x y = (x.0 < y.0) ⊎ ((x.0 ≡ y.0) × (x.1 < y.1))

abbrev pub IsUpTo : ℕ × ℕ → ℕ × ℕ → Type 0
IsUpTo x y = (x.0 ≤ y.0) × (x.0 ≡ y.0 → x.1 ≤ y.1)

abbrev pub AreInOrder : List (ℕ × ℕ) → Type 0
AreInOrder places = (j k : ℕ) (x y : ℕ × ℕ) → j < k → slice_get places j ≡ Some x → slice_get places k ≡ Some y → IsUpTo x y

pub same_place : (x y : ℕ × ℕ) → x.0 ≡ y.0 → x.1 ≡ y.1 → x ≡ y
same_place x y e f = ap (λ (n : ℕ). (n, x.1)) e ∙ ap (λ (n : ℕ). (y.0, n)) f

pub before_or_same : (x y : ℕ × ℕ) → IsUpTo x y → PlaceBefore x y ⊎ (x ≡ y)
before_or_same x y h = elim (cases_order x.0 y.0) [
  | inl same ↦ elim (cases_order x.1 y.1) [
    | inl too ↦ inr (same_place x y same too)
    | inr (inl less) ↦ inl (inr (same, less))
    | inr (inr more) ↦ absurd (let le = h.1 same in omega arith)
  ]
  | inr (inl less) ↦ inl (inl less)
  | inr (inr more) ↦ absurd (let le = h.0 in omega arith)
]

three : (x y : ℕ × ℕ) → PlaceBefore x y ⊎ (x ≡ y) ⊎ PlaceBefore y x
three x y = elim (cases_order x.0 y.0) [
  | inl same ↦ elim (cases_order x.1 y.1) [
    | inl too ↦ inr (inl (same_place x y same too))
    | inr (inl less) ↦ inl (inr (same, less))
    | inr (inr more) ↦ inr (inr (inr (sym same, more)))
  ]
  | inr (inl less) ↦ inl (inl less)
  | inr (inr more) ↦ inr (inr (inl more))
]

pub place_asym : (x y : ℕ × ℕ) → PlaceBefore x y → IsUpTo y x → ⊥
place_asym x y (inl less) h = let le = h.0 in absurd (omega arith)
place_asym x y (inr (same, less)) h = let le = h.1 (sym same) in absurd (omega arith)

before_up_to : (x y z : ℕ × ℕ) → PlaceBefore x y → IsUpTo y z → PlaceBefore x z
before_up_to x y z (inl less) h = let le = h.0 in inl (omega arith)
before_up_to x y z (inr (same, less)) h = elim (cases_order y.0 z.0) [
  | inl too ↦ let le = h.1 too in inr (same ∙ too, omega arith)
  | inr (inl lt) ↦ inl (omega arith)
  | inr (inr gt) ↦ absurd (let le = h.0 in omega arith)
]

-- the place stands from low on, up to high; what is before them comes before it, and it comes before what is after them
pub record IsRun (places : List (ℕ × ℕ)) (at : ℕ × ℕ) (low high : ℕ) : Type 0 where
  pub within : high ≤ length places
  pub before : (k : ℕ) (x : ℕ × ℕ) → k < low → slice_get places k ≡ Some x → PlaceBefore x at
  pub here : (k : ℕ) → low ≤ k → k < high → slice_get places k ≡ Some at
  pub after : (k : ℕ) (x : ℕ × ℕ) → high ≤ k → slice_get places k ≡ Some x → PlaceBefore at x

rest_in_order : (x : ℕ × ℕ) (xs : List (ℕ × ℕ)) → AreInOrder (x ∷ xs) → AreInOrder xs
rest_in_order x xs o j k y z lt e f = o (suc j) (suc k) y z (omega arith) e f

module _ (x : ℕ × ℕ) (xs : List (ℕ × ℕ)) (at : ℕ × ℕ) (low high : ℕ) (r : IsRun xs at low high) where
  later : PlaceBefore x at → IsRun (x ∷ xs) at (suc low) (suc high)
  later b = record { within = omega (arith, r.within); before = before; here = here; after = after }
    where
      before : (k : ℕ) (y : ℕ × ℕ) → k < suc low → slice_get (x ∷ xs) k ≡ Some y → PlaceBefore y at
      before zero y lt e = subst (λ (z : ℕ × ℕ). PlaceBefore z at) (same_Some x y e) b
      before (suc k) y lt e = r.before k y (omega arith) e

      here : (k : ℕ) → suc low ≤ k → k < suc high → slice_get (x ∷ xs) k ≡ Some at
      here zero from to = absurd (omega arith)
      here (suc k) from to = r.here k (omega arith) (omega arith)

      after : (k : ℕ) (y : ℕ × ℕ) → suc high ≤ k → slice_get (x ∷ xs) k ≡ Some y → PlaceBefore at y
      after zero y from e = absurd (omega arith)
      after (suc k) y from e = r.after k y (omega arith) e

  first : AreInOrder (x ∷ xs) → x ≡ at → IsRun (x ∷ xs) at 0 (suc high)
  first o same = record { within = omega (arith, r.within); before = λ k y lt e. absurd (omega arith); here = here; after = after }
    where
      here : (k : ℕ) → 0 ≤ k → k < suc high → slice_get (x ∷ xs) k ≡ Some at
      here zero from to = ap (λ (z : ℕ × ℕ). Some z) same
      here (suc k) from to = elim (cases_lt k low) [
        | inl lt ↦
            let y = index_at xs k (omega (arith, r.within)) in
            let up : IsUpTo at y.0 = subst (λ (z : ℕ × ℕ). IsUpTo z y.0) same (o 0 (suc k) x y.0 (omega arith) refl y.1) in
            absurd (place_asym y.0 at (r.before k y.0 lt y.1) up)
        | inr le ↦ r.here k le (omega arith)
      ]

      after : (k : ℕ) (y : ℕ × ℕ) → suc high ≤ k → slice_get (x ∷ xs) k ≡ Some y → PlaceBefore at y
      after zero y from e = absurd (omega arith)
      after (suc k) y from e = r.after k y (omega arith) e

none : (x : ℕ × ℕ) (xs : List (ℕ × ℕ)) (at : ℕ × ℕ) → AreInOrder (x ∷ xs) → PlaceBefore at x → IsRun (x ∷ xs) at 0 0
none x xs at o b = record { within = omega arith; before = λ k y lt e. absurd (omega arith); here = λ k from to. absurd (omega arith); after = after }
  where
    after : (k : ℕ) (y : ℕ × ℕ) → 0 ≤ k → slice_get (x ∷ xs) k ≡ Some y → PlaceBefore at y
    after zero y from e = subst (λ (z : ℕ × ℕ). PlaceBefore at z) (same_Some x y e) b
    after (suc k) y from e = before_up_to at x y b (o 0 (suc k) x y (omega arith) refl e)

pub run : (places : List (ℕ × ℕ)) → AreInOrder places → (at : ℕ × ℕ) → (low : ℕ) × (high : ℕ) × IsRun places at low high
run [] o at = (0, 0, record { within = omega arith; before = λ k y lt e. absurd (omega arith); here = λ k from to. absurd (omega arith); after = λ k y from e. absurd cc })
run (x ∷ xs) o at =
    let r = run xs (rest_in_order x xs o) at in
    elim (three x at) [
      | inl before ↦ (suc r.0, suc r.1, later x xs at r.0 r.1 r.2 before)
      | inr (inl same) ↦ (0, suc r.1, first x xs at r.0 r.1 r.2 o same)
      | inr (inr after) ↦ (0, 0, none x xs at o after)
    ]

module _ (r : Reach) (pc slot low high : ℕ) (is : IsRun r.places (pc, slot) low high) where
  pub inside : (k : ℕ) → slice_get r.places k ≡ Some (pc, slot) → (low ≤ k) × (k < high)
  inside k e = (
    elim (cases_lt k low) [ inl lt ↦ absurd (place_asym (pc, slot) (pc, slot) (is.before k (pc, slot) lt e) (omega arith, λ q. omega arith)) | inr le ↦ le ],
    elim (cases_lt k high) [ inl lt ↦ lt | inr le ↦ absurd (place_asym (pc, slot) (pc, slot) (is.after k (pc, slot) le e) (omega arith, λ q. omega arith)) ],
  )

  pub run_defs : AreDefsAt r pc slot (slice_range r.defs low high)
  run_defs = (low, high, refl, λ k. (λ h. is.here k h.0 h.1, inside k))

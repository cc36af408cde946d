-- What a loop over places found of each item so far.
use Rattle.std.proofs.Common.{◌≡◌, ◌⊎◌, ◌<◌, ◌≤◌, ◌+◌, ℕ, List, Some, length, get_or, inl, inr, arith, subst, sym, ◌∙◌}
use Rattle.std.specs.Prelude.{slice_get}
use Rattle.std.proofs.lemmas.List.{get_or_default}
use Rattle.std.proofs.lemmas.Bool.{cases_lt}
use Rattle.std.proofs.lemmas.Option.{slice_get_within}

pub below_or_at : (i n : ℕ) → i < n + 1 → (i < n) ⊎ (i ≡ n)
below_or_at i n lt = elim (cases_lt i n) [ inl below ↦ inl below | inr above ↦ inr (omega (arith, lt, above)) ]

-- of the items before place i, and of the next
pub all_more : {X : Type 0} (P : X → Type 0) (xs : List X) (i : ℕ) (x : X) → x ≡ get_or xs i x → i < length xs → ((k : ℕ) (d : X) → k < i → P (get_or xs k d)) → P x
    → (k : ℕ) (d : X) → k < i + 1 → P (get_or xs k d)
all_more P xs i x is lt before here k d below = elim (below_or_at k i below) [
  | inl b ↦ before k d b
  | inr same ↦ subst (λ n. P (get_or xs n d)) (sym same) (subst P (is ∙ get_or_default xs i x d lt) here)
]

-- .. where the next is known as it is read from the list
pub all_next : {X : Type 0} (P : X → Type 0) (xs : List X) (i : ℕ) (z : X) → i < length xs → ((k : ℕ) (d : X) → k < i → P (get_or xs k d)) → P (get_or xs i z)
    → (k : ℕ) (d : X) → k < i + 1 → P (get_or xs k d)
all_next P xs i z lt before here = all_more P xs i (get_or xs i z) (get_or_default xs i z (get_or xs i z) lt) lt before here

module _ {X : Type 0} (P : ℕ → X → Type 0) (xs : List X) (start : ℕ) where
  -- of the items from `start` to before l
  abbrev pub Holds : ℕ → Type 0
  Holds l = (i : ℕ) (x : X) → start ≤ i → i < l → slice_get xs i ≡ Some x → P i x

  pub holds_more : (l : ℕ) → Holds l → ((x : X) → slice_get xs l ≡ Some x → P l x) → Holds (l + 1)
  holds_more l before here i x from lt at = elim (below_or_at i l lt) [
    | inl below ↦ before i x from below at
    | inr same ↦ subst (λ (n : ℕ). P n x) (sym same) (here x (subst (λ (n : ℕ). slice_get xs n ≡ Some x) same at))
  ]

  pub holds_all : (l : ℕ) → length xs ≤ l → Holds l → (i : ℕ) (x : X) → start ≤ i → slice_get xs i ≡ Some x → P i x
  holds_all l le all i x from at = let within = slice_get_within xs i x at in all i x from (omega arith) at

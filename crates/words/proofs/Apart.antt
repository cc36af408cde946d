-- Scripts that are apart, up to a place.
use Rattle.std.proofs.Common.{◌≡◌, ℕ, ◌+◌, ◌<◌, ◌≤◌, List, length, get_or, take, All, AllPairs, sym, ap, ◌∙◌, arith, subst, ⊎_elim, ◌⊎◌}
use Rattle.std.proofs.lemmas.List.{get_or_default, get_or-take, length-take}
use Rattle.words.specs.Scripts.{IsApart}

abbrev pub Upto : List (List ℕ) → ℕ → Type 0
Upto xs n = (i j : ℕ) (d : List ℕ) → i < j → j < n → IsApart (get_or xs i d) (get_or xs j d)

below : (i n : ℕ) → i < n + 1 → (i < n) ⊎ (i ≡ n)
below i n h = grind arith

-- one more is apart from those before it
pub more : (xs : List (List ℕ)) (n : ℕ) (x text : List ℕ) → n < length xs → x ≡ get_or xs n x → text ≡ x → Upto xs n → All (λ s. IsApart s text) (take n xs) → Upto xs (n + 1)
more xs n x text lt at is u all = λ i j d early h.
    ⊎_elim (λ (b : j < n). u i j d early b)
    (λ (b : j ≡ n).
    let before : i < n = omega arith in
    let last : get_or xs j d ≡ text = ap (λ (k : ℕ). get_or xs k d) b ∙ key d in
    let first : get_or (take n xs) i d ≡ get_or xs i d = get_or-take n xs i d before in
    subst (λ (y : List ℕ). IsApart (get_or xs i d) y) (sym last) (subst (λ (y : List ℕ). IsApart y text) first (all i d (omega (arith, length-take n xs)))))
    (below j n h)
  where
    key : (d : List ℕ) → get_or xs n d ≡ text
    key d = get_or_default xs n d x lt ∙ sym at ∙ sym is

-- the one at a place is apart from those before it
pub at_place : (xs : List (List ℕ)) (n : ℕ) (x text : List ℕ) → n < length xs → x ≡ get_or xs n x → text ≡ x → AllPairs IsApart xs → All (λ s. IsApart s text) (take n xs)
at_place xs n x text lt at is pairs k d h =
    let b : k < n = omega (arith, length-take n xs) in
    let first : get_or xs k d ≡ get_or (take n xs) k d = sym (get_or-take n xs k d b) in
    let last : get_or xs n d ≡ text = get_or_default xs n d x lt ∙ sym at ∙ sym is in
    subst (λ (y : List ℕ). IsApart (get_or (take n xs) k d) y) last (subst (λ (y : List ℕ). IsApart y (get_or xs n d)) first (pairs k n d b lt))

pub all_apart : (xs : List (List ℕ)) (n : ℕ) → length xs ≤ n → Upto xs n → AllPairs IsApart xs
all_apart xs n le u i j d early h = u i j d early (omega arith)

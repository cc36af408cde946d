-- Places in lists that grow at their end.
use Rattle.std.proofs.Common.{◌≡◌, ◌⊎◌, ◌<◌, ◌+◌, ◌++◌, ◌∷◌, [], ℕ, zero, suc, List, Some, inl, inr, length, take, get_or, slice_get, refl, sym, ap, subst, ◌∙◌, arith}
use Rattle.std.proofs.lemmas.List.{take_more}
use Rattle.std.proofs.lemmas.Option.{slice_get-get_or}
use Rattle.serving.specs.Ends.{ArePaired, no_pair, a_pair}

some_is : {A : Type 0} (x y : A) → Some x ≡ Some y → x ≡ y
some_is x y e = cc

-- what stands in a list with one item more
pub snoc_cases : {A : Type 0} (xs : List A) (x : A) (k : ℕ) (y : A) → slice_get (xs ++ x ∷ []) k ≡ Some y → (slice_get xs k ≡ Some y) ⊎ (x ≡ y)
snoc_cases [] x zero y e = inr (some_is x y e)
snoc_cases [] x (suc k) y e = inl e
snoc_cases (z ∷ xs) x zero y e = inl e
snoc_cases (z ∷ xs) x (suc k) y e = snoc_cases xs x k y e

pub snoc_last : {A : Type 0} (xs : List A) (x : A) → slice_get (xs ++ x ∷ []) (length xs) ≡ Some x
snoc_last [] x = refl
snoc_last (z ∷ xs) x = snoc_last xs x

nothing_there : {A : Type 0} (k : ℕ) (y : A) → slice_get [] k ≡ Some y → ⊥
nothing_there zero y e = absurd cc
nothing_there (suc k) y e = absurd cc

pub snoc_old : {A : Type 0} (xs : List A) (x : A) (k : ℕ) (y : A) → slice_get xs k ≡ Some y → slice_get (xs ++ x ∷ []) k ≡ Some y
snoc_old [] x k y e = absurd (nothing_there k y e)
snoc_old (z ∷ xs) x zero y e = e
snoc_old (z ∷ xs) x (suc k) y e = snoc_old xs x k y e

pub within : {A : Type 0} (xs : List A) (k : ℕ) (y : A) → slice_get xs k ≡ Some y → k < length xs
within [] zero y e = absurd cc
within [] (suc k) y e = absurd cc
within (z ∷ xs) zero y e = omega arith
within (z ∷ xs) (suc k) y e = omega (arith, within xs k y e)

-- what stands in the first items of a list
pub take_old : {A : Type 0} (xs : List A) (i k : ℕ) (y : A) → k < i → slice_get xs k ≡ Some y → slice_get (take i xs) k ≡ Some y
take_old [] i k y lt e = absurd (omega (arith, within [] k y e))
take_old (z ∷ xs) zero k y lt e = absurd (omega (arith, lt))
take_old (z ∷ xs) (suc i) zero y lt e = e
take_old (z ∷ xs) (suc i) (suc k) y lt e = take_old xs i k y (omega (arith, lt)) e

pub take_from : {A : Type 0} (xs : List A) (i k : ℕ) (y : A) → slice_get (take i xs) k ≡ Some y → slice_get xs k ≡ Some y
take_from xs zero k y e = absurd (omega (arith, within [] k y e))
take_from [] (suc i) k y e = e
take_from (z ∷ xs) (suc i) zero y e = e
take_from (z ∷ xs) (suc i) (suc k) y e = take_from xs i k y e

-- a list's item, and the items up to it
pub there_is : {A : Type 0} (xs : List A) (i : ℕ) (x : A) → i < length xs → ((d : A) → get_or xs i d ≡ x) → slice_get xs i ≡ Some x
there_is xs i x lt there = slice_get-get_or xs i x lt ∙ ap Some (there x)

pub take_next : {A : Type 0} (xs : List A) (i : ℕ) (x : A) → i < length xs → ((d : A) → get_or xs i d ≡ x) → take (i + 1) xs ≡ take i xs ++ x ∷ []
take_next xs i x lt there = take_more xs i x lt ∙ ap (λ y. take i xs ++ y ∷ []) (there x)

-- ---- pairs

pub paired_push : {A B : Type 0} {P : A → B → Type 0} {xs : List A} {ys : List B} {x : A} {y : B} → ArePaired P xs ys → P x y → ArePaired P (xs ++ x ∷ []) (ys ++ y ∷ [])
paired_push no_pair p = a_pair p no_pair
paired_push (a_pair q r) p = a_pair q (paired_push r p)

pub paired_length : {A B : Type 0} {P : A → B → Type 0} {xs : List A} {ys : List B} → ArePaired P xs ys → length ys ≡ length xs
paired_length no_pair = refl
paired_length (a_pair q r) = ap suc (paired_length r)

-- one more of both
pub paired_next : {A B : Type 0} (P : A → B → Type 0) (xs : List A) (i : ℕ) (x : A) (ys ys' : List B) (y : B) → i < length xs → ((d : A) → get_or xs i d ≡ x)
    → ArePaired P (take i xs) ys → P x y → ys' ≡ ys ++ y ∷ [] → ArePaired P (take (i + 1) xs) ys'
paired_next P xs i x ys ys' y lt there so p e =
    subst (λ zs. ArePaired P (take (i + 1) xs) zs) (sym e) (subst (λ zs. ArePaired P zs (ys ++ y ∷ [])) (sym (take_next xs i x lt there)) (paired_push so p))

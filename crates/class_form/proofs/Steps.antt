use Rattle.std.proofs.Common.{◌≡◌, ℕ, suc, length, List, [], ◌∷◌, ◌++◌, Option, Some, None, refl, ◌∙◌, ap}
use Rattle.std.specs.Prelude.{option_and_then}
use Rattle.class_form.specs.NameTests.{reached, steps_taken}

-- steps over two texts, one after the other
pub reached-append : {S : Type 0} (step : S → ℕ → Option S) (s : S) (xs ys : List ℕ)
    → reached step s (xs ++ ys) ≡ option_and_then (λ t. reached step t ys) (reached step s xs)
reached-append step s [] ys = refl
reached-append step s (x ∷ xs) ys =
    elim (step s x) as (λ o. option_and_then (λ t. reached step t (xs ++ ys)) o ≡ option_and_then (λ t. reached step t ys) (option_and_then (λ t. reached step t xs) o)) [
      | None ↦ refl
      | Some t ↦ reached-append step t xs ys
    ]

pub reached-then : {S : Type 0} (step : S → ℕ → Option S) (s t : S) (xs ys : List ℕ) → reached step s xs ≡ Some t → reached step s (xs ++ ys) ≡ reached step t ys
reached-then step s t xs ys h = reached-append step s xs ys ∙ ap (λ o. option_and_then (λ u. reached step u ys) o) h

-- the first step of several
pub stepped : {S : Type 0} (step : S → ℕ → Option S) (s t : S) (b : ℕ) (bytes : List ℕ) → reached step s (b ∷ bytes) ≡ Some t
    → (u : S) × (step s b ≡ Some u) × (reached step u bytes ≡ Some t)
stepped {S} step s t b bytes h = by_first (step s b) refl h
  where
    by_first : (o : Option S) → step s b ≡ o → option_and_then (λ u. reached step u bytes) o ≡ Some t → (u : S) × (step s b ≡ Some u) × (reached step u bytes ≡ Some t)
    by_first None e k = cc
    by_first (Some u) e k = (u, e, k)

-- where a state is reached, each byte had a step
pub all_taken : {S : Type 0} (step : S → ℕ → Option S) (s t : S) (bytes : List ℕ) → reached step s bytes ≡ Some t → steps_taken step s bytes ≡ length bytes
all_taken step s t [] h = refl
all_taken step s t (b ∷ bytes) h =
    let k = stepped step s t b bytes h in
    rw k.1 (ap (λ n. suc n) (all_taken step k.0 t bytes k.2))

-- Words of code at equal distances.
use Rattle.std.proofs.Common.{◌≡◌, ℕ, zero, suc, ◌+◌, ◌*◌, ◌<◌, ◌≤◌, List, [], ◌∷◌, ◌++◌, length, get_or, refl, ap, ◌∙◌, arith, add-one}
use Rattle.std.specs.List.Sorted.{IsStrictlyIncreasing}
use Rattle.class_form.specs.Bytes.{words_at, signed_word_at}

pub words-length : (code : List ℕ) (k step n : ℕ) → length (words_at code k step n) ≡ n
words-length code k step zero = refl
words-length code k step (suc n) = ap suc (words-length code (k + step) step n)

from_zero : (k step : ℕ) → k ≡ k + step * 0
from_zero k step = omega arith

one_on : (k step j : ℕ) → k + step + step * j ≡ k + step * suc j
one_on k step j = omega arith

pub word_of : (code : List ℕ) (k step n j : ℕ) → j < n → get_or (words_at code k step n) j 0 ≡ signed_word_at code (k + step * j)
word_of code k step zero j lt = absurd (omega arith)
word_of code k step (suc n) zero lt = ap (signed_word_at code) (from_zero k step)
word_of code k step (suc n) (suc j) lt = word_of code (k + step) step n j (omega arith) ∙ ap (signed_word_at code) (one_on k step j)

-- the words ascend where each is below the next
pub words_ascend : (code : List ℕ) (k step n : ℕ) → ((j : ℕ) → j + 1 < n → signed_word_at code (k + step * j) < signed_word_at code (k + step * (j + 1)))
    → IsStrictlyIncreasing (words_at code k step n)
words_ascend code k step n each j lt =
    let l = words-length code k step n in
    let within : j + 1 < n = omega arith in
    let a = word_of code k step n j (omega arith) in
    let b = word_of code k step n (j + 1) within in
    let h = each j within in
    rw (a, b) h

pub words_descend : (code : List ℕ) (k step n j : ℕ) → j + 1 < n → signed_word_at code (k + step * (j + 1)) ≤ signed_word_at code (k + step * j)
    → IsStrictlyIncreasing (words_at code k step n) → ⊥
words_descend code k step n j lt le up =
    let l = words-length code k step n in
    let a = word_of code k step n j (omega arith) in
    let b = word_of code k step n (j + 1) lt in
    let h = up j (omega arith) in
    let g = rw (a, b) at h in
    absurd (omega arith)

-- one more word
pub words_more : (code : List ℕ) (k step n : ℕ) → words_at code k step (n + 1) ≡ words_at code k step n ++ signed_word_at code (k + step * n) ∷ []
words_more code k step n = rw add-one (more code k step n)
  where
    more : (code : List ℕ) (k step n : ℕ) → words_at code k step (suc n) ≡ words_at code k step n ++ signed_word_at code (k + step * n) ∷ []
    more code k step zero = ap (λ p. signed_word_at code p ∷ []) (from_zero k step)
    more code k step (suc n) = ap (λ ws. signed_word_at code k ∷ ws) (more code (k + step) step n ∙ ap (λ p. words_at code (k + step) step n ++ signed_word_at code p ∷ []) (one_on k step n))

-- How many words the rows before each have.
use Rattle.std.proofs.Common.{◌≡◌, ℕ, zero, suc, ◌+◌, ◌*◌, ◌<◌, ◌≤◌, List, [], ◌∷◌, ◌++◌, length, map, get_or, set, arith, refl, sym, subst, ◌≢◌, get_or-set_same, get_or-set_other}
use Rattle.std.specs.Prelude.{slice_index}
use mathlib.Core.Logic.{dite}
use native.Mathlib.Decide.{dec_lt, ℕ_discrete}
use Rattle.summary_memo.specs.Places.{before}

-- a row ends where the next begins, or before
pub apart : (ws : List ℕ) (j k : ℕ) → j < k → k ≤ length ws → before ws j + suc (slice_index ws j) ≤ before ws k
apart [] j k lt le = absurd (omega arith)
apart (w ∷ ws) j zero lt le = absurd (omega arith)
apart (w ∷ ws) zero (suc k) lt le = omega arith
apart (w ∷ ws) (suc j) (suc k) lt le = let more = apart ws j k (omega arith) (omega arith) in omega arith

-- two words of rows that are one lie in one row
pub one_row : (ws : List ℕ) (j k a b : ℕ) → j < length ws → k < length ws → a ≤ slice_index ws j → b ≤ slice_index ws k → before ws j + a ≡ before ws k + b → j ≡ k
one_row ws j k a b j_in k_in a_in b_in e =
    dite (dec_lt j k)
    (λ lt. let far = apart ws j k lt (omega arith) in absurd (omega arith))
    (λ ge. dite (dec_lt k j)
    (λ lt. let far = apart ws k j lt (omega arith) in absurd (omega arith))
    (λ ge'. omega arith))

-- a word of a row lies before the end of all rows
pub inside : (ws : List ℕ) (k a : ℕ) → k < length ws → a ≤ slice_index ws k → before ws k + a < before ws (length ws)
inside ws k a lt le = let far = apart ws k (length ws) lt (omega arith) in omega arith

pub before-zero : (ws : List ℕ) → before ws 0 ≡ 0
before-zero [] = refl
before-zero (w ∷ ws) = refl

pub next_row : (ws : List ℕ) (k : ℕ) → k < length ws → before ws (suc k) ≡ before ws k + suc (slice_index ws k)
next_row [] k lt = absurd (omega arith)
next_row (w ∷ ws) zero lt = let none = before-zero ws in omega arith
next_row (w ∷ ws) (suc k) lt = let more = next_row ws k (omega arith) in omega arith

-- rows of at most so many data words
pub bounded : (ws : List ℕ) (most k : ℕ) → ((j : ℕ) → slice_index ws j ≤ most) → before ws k ≤ k * suc most
bounded [] most k each = omega arith
bounded (w ∷ ws) most zero each = omega arith
bounded (w ∷ ws) most (suc k) each =
    let here = each 0 in
    let more = bounded ws most k (λ j. each (suc j)) in
    grind arith

pub index-map : {X : Type 0} (g : X → ℕ) (x : X) (xs : List X) (k : ℕ) → k < length xs → slice_index (map g xs) k ≡ g (get_or xs k x)
index-map g x [] k lt = absurd (omega arith)
index-map g x (y ∷ xs) zero lt = refl
index-map g x (y ∷ xs) (suc k) lt = index-map g x xs k (omega arith)

-- a list that a function gives, with one more element
pub index_snoc : (xs : List ℕ) (x : ℕ) (g : ℕ → ℕ) → ((k : ℕ) → k < length xs → slice_index xs k ≡ g k) → x ≡ g (length xs) → (k : ℕ) → k < suc (length xs) → slice_index (xs ++ x ∷ []) k ≡ g k
index_snoc [] x g h e zero lt = e
index_snoc [] x g h e (suc k) lt = absurd (omega arith)
index_snoc (y ∷ ys) x g h e zero lt = h 0 (omega arith)
index_snoc (y ∷ ys) x g h e (suc k) lt = index_snoc ys x (λ n. g (suc n)) (λ j in_it. h (suc j) (omega arith)) e k (omega arith)

-- a fact of each number of a list up to a place, and of the number put there
pub put_next : (P : ℕ → ℕ → Type 0) (xs : List ℕ) (k n : ℕ) → k < length xs → ((j : ℕ) → j < k → P j (slice_index xs j)) → P k n → (j : ℕ) → j < k + 1 → P j (slice_index (set xs k n) j)
put_next P xs k n lt before here j within =
    dite (ℕ_discrete j k)
    (λ (same : j ≡ k). subst (λ (z : ℕ). P z (slice_index (set xs k n) z)) (sym same) (subst (P k) (sym (get_or-set_same xs k n 0 lt)) here))
    (λ (other : j ≢ k). subst (P j) (sym (get_or-set_other xs k j n 0 other)) (before j (omega arith)))

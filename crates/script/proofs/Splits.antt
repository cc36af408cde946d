-- How a line splits at its blanks.
use Rattle.std.proofs.Common.{◌≡◌, ◌≢◌, ◌<◌, ◌≤◌, ◌-◌, ℕ, List, [], ◌++◌, length, take, drop, slice_index, sym, ap, ◌∙◌, subst, inl, inr, arith}
use Rattle.std.specs.Prelude.{All}
use Rattle.std.proofs.Math.Seq.{drop-cons}
use Rattle.std.proofs.Math.ListN.{drop_of_length-le}
use Rattle.std.proofs.lemmas.Bool.{cases_lt}
use Rattle.std.proofs.lemmas.List.{take_all, get_or-take, take-append-drop, length-take, length-take-le, length-drop}
use Rattle.std.proofs.lemmas.List.Elements.{All-from_get_or}
use Rattle.script.specs.Words.{IsBlank, EndsWord, HasFirstWord}

-- all of the first n, told by index
all_first : (P : ℕ → Type 0) (n : ℕ) (xs : List ℕ) → n ≤ length xs → ((k : ℕ) → k < n → P (slice_index xs k)) → All P (take n xs)
all_first P n xs h f =
    All-from_get_or P (take n xs) 0 (λ k lt. let l : k < n = omega (arith, length-take n xs) in subst P (sym (get_or-take n xs k 0 l)) (f k l))

-- all, told by index
pub all_told : (P : ℕ → Type 0) (n : ℕ) (xs : List ℕ) → length xs ≤ n → ((k : ℕ) → k < n → P (slice_index xs k)) → All P xs
all_told P n xs h f = All-from_get_or P xs 0 (λ k lt. f k (omega arith))

-- what stands after the first n
ends_word : (n : ℕ) (xs : List ℕ) → (n < length xs → IsBlank (slice_index xs n)) → EndsWord (drop n xs)
ends_word n xs h = elim (cases_lt n (length xs)) [
  | inl lt ↦ subst EndsWord (sym (drop-cons xs n 0 lt)) (h lt)
  | inr ge ↦ subst EndsWord (sym (drop_of_length-le xs ge)) tt
]

not_empty : (n : ℕ) (xs : List ℕ) → n ≤ length xs → n ≢ 0 → take n xs ≢ []
not_empty n xs h ne e = omega (arith, ap length e, length-take-le n xs h)

-- a range up to the end
pub rest_is : (start : ℕ) (xs : List ℕ) → take (length xs - start) (drop start xs) ≡ drop start xs
rest_is start xs = take_all (length xs - start) (drop start xs) (omega (arith, length-drop start xs))

pub splits : (line : List ℕ) (start len : ℕ) → start ≤ length line → len ≤ length (drop start line) → len ≢ 0
    → ((k : ℕ) → k < start → IsBlank (slice_index line k))
    → ((k : ℕ) → k < len → IsBlank (slice_index (drop start line) k) → ⊥)
    → (len < length (drop start line) → IsBlank (slice_index (drop start line) len))
    → HasFirstWord line (take len (drop start line)) (drop len (drop start line))
splits line start len s l ne before within after = record {
  gap = take start line;
  spells = sym (ap (λ xs. take start line ++ xs) (take-append-drop len (drop start line)) ∙ take-append-drop start line);
  blanks = all_first IsBlank start line s before;
  is_word = (not_empty len (drop start line) l ne, all_first (λ b. IsBlank b → ⊥) len (drop start line) l within);
  ends = ends_word len (drop start line) after;
}

-- the same, as ranges spell it
pub splits_ranges : (line rest : List ℕ) (start len : ℕ) → rest ≡ take (length line - start) (drop start line)
    → start ≤ length line → len ≤ length rest → len ≢ 0
    → ((k : ℕ) → k < start → IsBlank (slice_index line k))
    → ((k : ℕ) → k < len → IsBlank (slice_index rest k) → ⊥)
    → (len < length rest → IsBlank (slice_index rest len))
    → HasFirstWord line (take len rest) (take (length rest - len) (drop len rest))
splits_ranges line rest start len e s l ne before within after =
    let r : rest ≡ drop start line = e ∙ rest_is start line in
    subst (λ t. HasFirstWord line (take len rest) t) (sym (rest_is len rest))
    (subst (λ xs. len ≤ length xs → ((k : ℕ) → k < len → IsBlank (slice_index xs k) → ⊥) → (len < length xs → IsBlank (slice_index xs len)) → HasFirstWord line (take len xs) (drop len xs))
    (sym r) (λ l' w' a'. splits line start len s l' ne before w' a') l within after)

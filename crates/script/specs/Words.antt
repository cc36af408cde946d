-- The words of a line.
use Rattle.std.specs.Prelude.{◌≡◌, ◌≢◌, ◌⊎◌, ℕ, List, [], ◌∷◌, ◌++◌, All}

-- a space or a tab
abbrev pub IsBlank : ℕ → Type 0
IsBlank b = (b ≡ 32) ⊎ (b ≡ 9)

-- one byte or more, none of them a blank
abbrev pub IsWord : List ℕ → Type 0
IsWord word = (word ≢ []) × All (λ b. IsBlank b → ⊥) word

-- the end of a line, or a blank
abbrev pub EndsWord : List ℕ → Type 0
EndsWord [] = Unit {0}
EndsWord (b ∷ bs) = IsBlank b

-- the line is blanks, the word, and the rest, which doesn't go on with the word
pub record HasFirstWord (line word rest : List ℕ) : Type 0 where
  pub gap : List ℕ
  pub spells : line ≡ gap ++ (word ++ rest)
  pub blanks : All IsBlank gap
  pub is_word : IsWord word
  pub ends : EndsWord rest

-- the line begins with these words, and goes on with the rest
abbrev pub BeginsWithWords : List ℕ → List (List ℕ) → List ℕ → Type 0
BeginsWithWords line [] rest = line ≡ rest
BeginsWithWords line (word ∷ words) rest = (next : List ℕ) × HasFirstWord line word next × BeginsWithWords next words rest

-- the line is these words, with blanks between them, before them and after them
abbrev pub HasWords : List ℕ → List (List ℕ) → Type 0
HasWords line words = (rest : List ℕ) × BeginsWithWords line words rest × All IsBlank rest

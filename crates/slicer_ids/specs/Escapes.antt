-- Escapes: how the bytes of a name are printed, and how a word is read back.
use Rattle.std.specs.Prelude.{◌≡◌, ◌+◌, ◌*◌, ◌/◌, ◌%◌, ◌<◌, ◌≤◌, ◌⊎◌, ◌==◌, ◌||◌, ℕ, List, [], ◌∷◌, nat_le, nat_lt, if◌then◌else◌}
use Rattle.std.specs.List.{flat_map}

-- the lower-case hexadecimal digit of this value
abbrev pub IsHexDigit : ℕ → ℕ → Type 0
IsHexDigit digit value = ((value < 10) × (digit ≡ 48 + value)) ⊎ ((10 ≤ value) × (value < 16) × (digit ≡ 87 + value))

-- the word is `\` and two lower-case hexadecimal digits, which give the byte, and then the rest
pub record BeginsEscape (word : List ℕ) (byte : ℕ) (rest : List ℕ) : Type 0 where
  pub high : ℕ
  pub low : ℕ
  pub first : ℕ
  pub second : ℕ
  pub is_high : IsHexDigit first high
  pub is_low : IsHexDigit second low
  pub spells : word ≡ 92 ∷ first ∷ second ∷ rest
  pub gives : byte ≡ 16 * high + low

-- no escape begins the word
abbrev pub BeginsPlain : List ℕ → Type 0
BeginsPlain word = (byte : ℕ) (rest : List ℕ) → BeginsEscape word byte rest → ⊥

-- the word stands for this byte and then for what the rest stands for: an escape stands for its byte, any other byte for itself
abbrev pub BeginsWith : List ℕ → ℕ → List ℕ → Type 0
BeginsWith word byte rest = BeginsEscape word byte rest ⊎ (BeginsPlain word × (word ≡ byte ∷ rest))

-- the bytes that a word stands for
abbrev pub StandsFor : List ℕ → List ℕ → Type 0
StandsFor word [] = word ≡ []
StandsFor word (byte ∷ bytes) = (rest : List ℕ) × BeginsWith word byte rest × StandsFor rest bytes

-- the lower-case hexadecimal digit of a value below 16
abbrev pub hex_digit : ℕ → ℕ
hex_digit value = if nat_lt value 10 then 48 + value else 87 + value

-- a byte as it is printed in a name: an escape where it is at most 32, or 92, or 127
abbrev pub printed_byte : ℕ → List ℕ
printed_byte b = if nat_le b 32 || b == 92 || b == 127 then 92 ∷ hex_digit (b / 16) ∷ hex_digit (b % 16) ∷ [] else b ∷ []

-- a name as it is printed
abbrev pub printed : List ℕ → List ℕ
printed bytes = flat_map printed_byte bytes

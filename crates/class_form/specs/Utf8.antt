-- Modified UTF-8 (JVMS SE 7 4.4.7).
use Rattle.std.specs.Prelude.{◌≡◌, ◌⊎◌, ◌≤◌, ℕ, List, [], ◌∷◌}
use Rattle.std.specs.List.{flat_map, AllByRecursion}

-- a byte of a character that isn't its first
abbrev pub IsContinuation : ℕ → Type 0
IsContinuation b = (0x80 ≤ b) × (b ≤ 0xbf)

-- the bytes of one character: U+0001 to U+007F in one byte, U+0000 and U+0080 to U+07FF in two, U+0800 to U+FFFF in three,
-- surrogates too
abbrev pub IsCharacter : List ℕ → Type 0
IsCharacter [] = ⊥
IsCharacter (a ∷ []) = (0x01 ≤ a) × (a ≤ 0x7f)
IsCharacter (a ∷ b ∷ []) = ((a ≡ 0xc0) × (b ≡ 0x80)) ⊎ ((0xc2 ≤ a) × (a ≤ 0xdf) × IsContinuation b)
IsCharacter (a ∷ b ∷ c ∷ []) = (0xe0 ≤ a) × (a ≤ 0xef) × (a ≡ 0xe0 → 0xa0 ≤ b) × IsContinuation b × IsContinuation c
IsCharacter (a ∷ b ∷ c ∷ d ∷ more) = ⊥

-- characters, one after another
abbrev pub IsModifiedUtf8 : List ℕ → Type 0
IsModifiedUtf8 bytes = (characters : List (List ℕ)) × AllByRecursion IsCharacter characters × (bytes ≡ flat_map (λ c. c) characters)

-- Numbers in code, most significant byte first (JVMS SE 7 6.1, 6.5).
use Rattle.std.specs.Prelude.{◌+◌, ◌-◌, ◌*◌, ◌/◌, ◌%◌, ◌^◌, ℕ, zero, suc, List, [], ◌∷◌, slice_index, nat_le, if◌then◌else◌, Option, Some, None}

-- the unsigned numbers of two and of four bytes
abbrev pub short_at : List ℕ → ℕ → ℕ
short_at code k = slice_index code k * 256 + slice_index code (k + 1)

abbrev pub word_at : List ℕ → ℕ → ℕ
word_at code k = short_at code k * 65536 + short_at code (k + 2)

-- the signed numbers that they stand for, each as how far it lies above - 2 ^ 31
abbrev pub signed_short_at : List ℕ → ℕ → ℕ
signed_short_at code k = (short_at code k + 2 ^ 15) % 2 ^ 16 + (2 ^ 31 - 2 ^ 15)

abbrev pub signed_word_at : List ℕ → ℕ → ℕ
signed_word_at code k = (word_at code k + 2 ^ 31) % 2 ^ 32

-- so many signed numbers of four bytes, from a place on, each so many bytes after the one before
abbrev pub words_at : List ℕ → ℕ → ℕ → ℕ → List ℕ
words_at code k step zero = []
words_at code k step (suc n) = signed_word_at code k ∷ words_at code (k + step) step n

-- the first multiple of 4 above a place
abbrev pub aligned : ℕ → ℕ
aligned pc = (pc + 4) / 4 * 4

-- where a jump from a place goes, by a signed number as above; none below 0
abbrev pub target_of : ℕ → ℕ → Option ℕ
target_of pc distance = if nat_le (2 ^ 31) (pc + distance) then Some (pc + distance - 2 ^ 31) else None

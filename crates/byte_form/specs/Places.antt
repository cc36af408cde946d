-- Places in some bytes.
use Rattle.std.specs.Prelude.{◌≡◌, ◌<◌, ◌+◌, ℕ, List, ◌++◌, length, get_or}

-- what stands from a place on, and the place's offset
pub record State : Type 0 where
  pub at : ℕ
  pub rest : List ℕ

abbrev pub start : List ℕ → State
start bytes = record { at = 0; rest = bytes }

-- the text stands at s, and t is the place after it
pub record Takes (s : State) (text : List ℕ) (t : State) : Type 0 where
  pub parts : s.rest ≡ text ++ t.rest
  pub moved : t.at ≡ s.at + length text

abbrev pub IsBytes : List ℕ → Type 0
IsBytes bytes = (i : ℕ) → get_or bytes i 0 < 256

-- Scripts that can be served beside one another.
use Rattle.std.specs.Prelude.{◌≢◌, ◌≤◌, ◌++◌, ℕ, List, AllPairs, codes, length}

-- the file that the replies to a script are written to
abbrev pub output_of : List ℕ → List ℕ
output_of script = script ++ codes ".out"

-- the two differ, and neither is where the replies to the other go
abbrev pub IsApart : List ℕ → List ℕ → Type 0
IsApart a b = (a ≢ b) × (b ≢ output_of a) × (a ≢ output_of b)

-- there are at most 64, and any two of them are apart
pub record AreScripts (scripts : List (List ℕ)) : Type 0 where
  pub few : length scripts ≤ 64
  pub apart : AllPairs IsApart scripts

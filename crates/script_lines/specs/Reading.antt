-- How far a script was read, and what comes next.
use Rattle.std.specs.Prelude.{◌≡◌, ◌≢◌, ◌⊎◌, ◌+◌, ◌-◌, ◌++◌, ℕ, true, false, List, [], ◌∷◌, All, length, take, drop, Option, Some}
use Rattle.std.specs.List.{flat_map}
use Rattle.session_form.specs.Scripts.{IsOneLine, ended, AreLines}
use Rattle.script_lines.specs.declared.reader.ScriptReader.{ScriptReader}
use Rattle.script_lines.specs.declared.next.Next.{Next}
use Rattle.script_lines.specs.declared.next.Next.TheVariants.{Line, Last, End, TooLong, Fault}
use Rattle.script_lines.specs.Limits.{most_lines, kept_bytes}

-- what was read and not taken yet
abbrev pub unread : ScriptReader → List ℕ
unread r = take (r.end - r.at) (drop r.at r.chunk.items)

-- the bytes of the last line that are kept
abbrev pub line_in : ScriptReader → List ℕ
line_in r = r.line.items

-- what comes where nothing is left: a last line where some of its bytes are there
abbrev pub Ends : ScriptReader → Next → Type 0
Ends r n = ((n ≡ End) × (line_in r ≡ [])) ⊎ ((n ≡ Last) × (line_in r ≢ []))

-- of the script these whole lines were taken, and then these bytes of a line that has no end yet; the source has what is left
pub record HasTaken (script : List ℕ) (lines : List (List ℕ)) (rest : List ℕ) (r : ScriptReader) (left : List ℕ) : Type 0 where
  pub spells : script ≡ flat_map ended lines ++ (rest ++ (unread r ++ left))
  pub each : All IsOneLine lines
  pub last : IsOneLine rest
  pub counted : r.lines ≡ length lines
  pub sized : r.bytes ≡ length (flat_map ended lines) + length rest
  pub full : r.lines ≡ most_lines → rest ≡ []

-- where the source tells what is left: nothing was taken of a further line
abbrev pub IsBetween : List ℕ → List (List ℕ) → ScriptReader → Option (List ℕ) → Type 0
IsBetween script lines r left = (l : List ℕ) × (left ≡ Some l) × HasTaken script lines [] r l

-- these bytes were taken of a further line, and the first of them are kept
abbrev pub IsWithin : List ℕ → List (List ℕ) → List ℕ → ScriptReader → Option (List ℕ) → Type 0
IsWithin script lines rest r left = (l : List ℕ) × (left ≡ Some l) × (line_in r ≡ take kept_bytes rest) × HasTaken script lines rest r l

-- what comes after these lines; after the last one, and at the end, nothing is left
abbrev pub Comes : List ℕ → List (List ℕ) → ScriptReader → Option (List ℕ) → Next → Type 0
Comes script lines r left Line = (l : List ℕ) × IsOneLine l × (line_in r ≡ take kept_bytes l) × IsBetween script (lines ++ (l ∷ [])) r left
Comes script lines r left Last = (l : List ℕ) × IsOneLine l × (line_in r ≡ take kept_bytes l) × AreLines script false (lines ++ (l ∷ [])) × (left ≡ Some [])
Comes script lines r left End = AreLines script false lines × (left ≡ Some [])
Comes script lines r left TooLong = AreLines script true lines
Comes script lines r left Fault = Unit {0}

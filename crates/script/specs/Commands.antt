-- The commands, and which words give which.
use Rattle.std.specs.Prelude.{◌≡◌, ◌≢◌, ℕ, List, [], ◌∷◌, length, codes, Some, Contains, slice_get}
use Rattle.slicer_ids.specs.Escapes.{StandsFor}
use Rattle.script.specs.Operands.{IsClassName, IsNumber, IsPlace}
use Rattle.script.specs.declared.command.Place.{Place}
use Rattle.script.specs.declared.command.Command.{Command}
use Rattle.script.specs.declared.command.Command.TheVariants.{Seed, SeedLine, Reset, Slice, Full, Lines, Expand, ExpandAll, Explain}

-- each command's name, how many words follow it, and which of these, from 0, are numbers
pub data Takes : List ℕ → ℕ → List ℕ → Type 0 where
  seed : Takes (codes "seed") 4 (3 ∷ [])
  seed_line : Takes (codes "seedline") 2 (1 ∷ [])
  reset : Takes (codes "reset") 0 []
  expand : Takes (codes "expand") 4 (3 ∷ [])
  expand_all : Takes (codes "expand-all") 0 []
  slice : Takes (codes "slice") 0 []
  full : Takes (codes "full") 0 []
  lines : Takes (codes "lines") 0 []
  explain : Takes (codes "explain") 8 (3 ∷ 7 ∷ [])

-- the command that a name and the words after it give
pub data Gives : List ℕ → List (List ℕ) → Command → Type 0 where
  gives_seed : {c n d p : List ℕ} {place : Place} → IsPlace c n d p place → Gives (codes "seed") (c ∷ n ∷ d ∷ p ∷ []) (Seed place)
  gives_seed_line : {c l name : List ℕ} {line : ℕ} → IsClassName c name → IsNumber l line → Gives (codes "seedline") (c ∷ l ∷ []) (SeedLine name line)
  gives_reset : Gives (codes "reset") [] Reset
  gives_expand : {c n d p : List ℕ} {place : Place} → IsPlace c n d p place → Gives (codes "expand") (c ∷ n ∷ d ∷ p ∷ []) (Expand place)
  gives_expand_all : Gives (codes "expand-all") [] ExpandAll
  gives_slice : Gives (codes "slice") [] Slice
  gives_full : Gives (codes "full") [] Full
  gives_lines : Gives (codes "lines") [] Lines
  gives_explain : {c n d p c' n' d' p' : List ℕ} {a b : Place} → IsPlace c n d p a → IsPlace c' n' d' p' b →
      Gives (codes "explain") (c ∷ n ∷ d ∷ p ∷ c' ∷ n' ∷ d' ∷ p' ∷ []) (Explain a b)

-- the word stands for the name of no command
abbrev pub IsUnknown : List ℕ → Type 0
IsUnknown word = (name : List ℕ) (n : ℕ) (numbers : List ℕ) → Takes name n numbers → StandsFor word name → ⊥

-- the word stands for the name of a command after which another number of words stands
abbrev pub HasWrongCount : List ℕ → List (List ℕ) → Type 0
HasWrongCount word words =
    (name : List ℕ) × (n : ℕ) × (numbers : List ℕ) × Takes name n numbers × StandsFor word name × (length words ≢ n)

-- the word stands for the name of a command after which the right number of words stands, one of them in a number's place and no number
abbrev pub HasBadNumber : List ℕ → List (List ℕ) → Type 0
HasBadNumber word words =
    (name : List ℕ) × (n : ℕ) × (numbers : List ℕ) × Takes name n numbers × StandsFor word name × (length words ≡ n)
    × (i : ℕ) × (operand : List ℕ) × Contains numbers i × (slice_get words i ≡ Some operand) × ((k : ℕ) → IsNumber operand k → ⊥)

-- the word stands for the name of a command, and this command is given
abbrev pub IsCommand : List ℕ → List (List ℕ) → Command → Type 0
IsCommand word words command = (name : List ℕ) × StandsFor word name × Gives name words command

-- What the parts of the parser answer.
use Rattle.std.specs.Prelude.{◌≡◌, ◌≢◌, ◌<◌, ℕ, List, [], ◌∷◌, length, Result, Ok, Err, Some, Contains, slice_get}
use Rattle.script.specs.Words.{HasWords}
use Rattle.script.specs.Operands.{IsNumber, IsPlace}
use Rattle.script.specs.Commands.{Takes, Gives}
use Rattle.script.specs.Lines.{Says, NeedsMemory}
use Rattle.script.specs.declared.command.Place.{Place}
use Rattle.script.specs.declared.command.Command.{Command}
use Rattle.script.specs.declared.command.LineError.{LineError}
use Rattle.script.specs.declared.command.LineError.TheVariants.{NoMemory, TooLong, Unknown, Arity, BadNumber}

-- the line has fewer words
abbrev pub HasFewerWords : List ℕ → ℕ → Type 0
HasFewerWords line n = (words : List (List ℕ)) × HasWords line words × (length words < n)

-- the line has another number of words
abbrev pub HasOtherCount : List ℕ → ℕ → Type 0
HasOtherCount line n = (words : List (List ℕ)) × HasWords line words × (length words ≢ n)

-- the words after a command's name that holds a place, and what comes of them
abbrev pub GivesPlace : List ℕ → Result Place LineError → Type 0
GivesPlace line (Ok place) =
    (class : List ℕ) × (name : List ℕ) × (descriptor : List ℕ) × (pc : List ℕ) × HasWords line (class ∷ name ∷ descriptor ∷ pc ∷ []) × IsPlace class name descriptor pc place
GivesPlace line (Err NoMemory) =
    (class : List ℕ) × (name : List ℕ) × (descriptor : List ℕ) × (pc : List ℕ) × (k : ℕ) × HasWords line (class ∷ name ∷ descriptor ∷ pc ∷ []) × IsNumber pc k
GivesPlace line (Err TooLong) = ⊥
GivesPlace line (Err Unknown) = ⊥
GivesPlace line (Err Arity) = HasOtherCount line 4
GivesPlace line (Err BadNumber) =
    (class : List ℕ) × (name : List ℕ) × (descriptor : List ℕ) × (pc : List ℕ) × HasWords line (class ∷ name ∷ descriptor ∷ pc ∷ []) × ((k : ℕ) → IsNumber pc k → ⊥)

-- the words after the name of a command, and what comes of them
abbrev pub Finishes : List ℕ → List ℕ → Result Command LineError → Type 0
Finishes name line (Ok command) = (words : List (List ℕ)) × HasWords line words × Gives name words command
Finishes name line (Err NoMemory) = (words : List (List ℕ)) × (command : Command) × HasWords line words × Gives name words command × (words ≢ [])
Finishes name line (Err TooLong) = ⊥
Finishes name line (Err Unknown) = ⊥
Finishes name line (Err Arity) =
    (words : List (List ℕ)) × (n : ℕ) × (numbers : List ℕ) × HasWords line words × Takes name n numbers × (length words ≢ n)
Finishes name line (Err BadNumber) =
    (words : List (List ℕ)) × (n : ℕ) × (numbers : List ℕ) × (i : ℕ) × (operand : List ℕ) × HasWords line words × Takes name n numbers × (length words ≡ n)
    × Contains numbers i × (slice_get words i ≡ Some operand) × ((k : ℕ) → IsNumber operand k → ⊥)

-- what a line says, or that it needs memory
abbrev pub Answers : List ℕ → Result Command LineError → Type 0
Answers line (Ok command) = Says line (Ok command)
Answers line (Err NoMemory) = NeedsMemory line
Answers line (Err TooLong) = Says line (Err TooLong)
Answers line (Err Unknown) = Says line (Err Unknown)
Answers line (Err Arity) = Says line (Err Arity)
Answers line (Err BadNumber) = Says line (Err BadNumber)

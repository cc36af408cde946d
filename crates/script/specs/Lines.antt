-- What a line of a script says.
use Rattle.std.specs.Prelude.{◌≡◌, ◌≢◌, ◌<◌, ◌≤◌, ℕ, List, [], ◌∷◌, length, Result, Ok, Err}
use Rattle.script.specs.Words.{HasWords}
use Rattle.script.specs.Commands.{IsUnknown, HasWrongCount, HasBadNumber, IsCommand}
use Rattle.script.specs.declared.command.Command.{Command}
use Rattle.script.specs.declared.command.Command.TheVariants.{Blank}
use Rattle.script.specs.declared.command.LineError.{LineError}
use Rattle.script.specs.declared.command.LineError.TheVariants.{TooLong, Unknown, Arity, BadNumber}

-- the line has more bytes than a line may have
abbrev pub IsTooLong : List ℕ → Type 0
IsTooLong line = 4096 < length line

-- the first byte of the word is `#`
abbrev pub BeginsComment : List ℕ → Type 0
BeginsComment [] = ⊥
BeginsComment (b ∷ bs) = b ≡ 35

-- the line isn't too long, and has this first word, which begins no comment, and these words after it
pub record IsCommandLine (line word : List ℕ) (words : List (List ℕ)) : Type 0 where
  pub short : length line ≤ 4096
  pub has : HasWords line (word ∷ words)
  pub no_comment : BeginsComment word → ⊥

-- what a line says: nothing, a command, or why it is refused
pub data Says (line : List ℕ) : Result Command LineError → Type 0 where
  too_long : IsTooLong line → Says line (Err TooLong)
  empty : length line ≤ 4096 → HasWords line [] → Says line (Ok Blank)
  comment : (word : List ℕ) (words : List (List ℕ)) → length line ≤ 4096 → HasWords line (word ∷ words) → BeginsComment word → Says line (Ok Blank)
  unknown : (word : List ℕ) (words : List (List ℕ)) → IsCommandLine line word words → IsUnknown word → Says line (Err Unknown)
  arity : (word : List ℕ) (words : List (List ℕ)) → IsCommandLine line word words → HasWrongCount word words → Says line (Err Arity)
  number : (word : List ℕ) (words : List (List ℕ)) → IsCommandLine line word words → HasBadNumber word words → Says line (Err BadNumber)
  command : (word : List ℕ) (words : List (List ℕ)) {c : Command} → IsCommandLine line word words → IsCommand word words c → Says line (Ok c)

-- the line is a command with words after its name
pub record NeedsMemory (line : List ℕ) : Type 0 where
  pub word : List ℕ
  pub words : List (List ℕ)
  pub command : Command
  pub is_line : IsCommandLine line word words
  pub is_command : IsCommand word words command
  pub several : words ≢ []

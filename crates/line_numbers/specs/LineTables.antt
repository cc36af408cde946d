-- The lines of source that the line tables of a body give (JVMS SE 7, 4.7.12).
use Rattle.std.specs.Prelude.{◌≡◌, ◌<◌, ◌≤◌, ◌+◌, ℕ, List, [], Option, Some, None, slice_get, slice_index_or, length, nat_lt, if◌then◌else◌, ◌-◌}
use Rattle.std.specs.List.{flat_map}
use Rattle.class_form.specs.declared.class_file.CodeBody.{CodeBody}
use Rattle.class_form.specs.declared.class_file.CodeAttribute.{CodeAttribute}
use Rattle.class_form.specs.declared.class_file.CodeContent.{CodeContent}
use Rattle.class_form.specs.declared.class_file.CodeContent.TheVariants.{Lines, Other}
use Rattle.line_numbers.specs.declared.numbers.LineNumbers.{LineNumbers}

abbrev pub lines_in : CodeContent → List (ℕ × ℕ)
lines_in (Lines pairs) = pairs
lines_in (Other bytes) = []

abbrev pub lines_of_one : CodeAttribute → List (ℕ × ℕ)
lines_of_one a = lines_in a.content

-- the pairs of a first program counter and its line, of all line tables in the order of the file
abbrev pub lines_of : CodeBody → List (ℕ × ℕ)
lines_of body = flat_map lines_of_one body.attributes

-- the line of the last pair that begins at a program counter; none where no pair does
abbrev pub IsLastAt : List (ℕ × ℕ) → ℕ → Option ℕ → Type 0
IsLastAt lines start None = (j : ℕ) (other : ℕ) → slice_get lines j ≡ Some (start, other) → ⊥
IsLastAt lines start (Some line) =
    (k : ℕ) × (slice_get lines k ≡ Some (start, line)) × ((j : ℕ) (other : ℕ) → slice_get lines j ≡ Some (start, other) → j ≤ k)

-- the line that begins at the greatest program counter below an end, by the last pair that begins there
abbrev pub IsLineBelow : List (ℕ × ℕ) → ℕ → Option ℕ → Type 0
IsLineBelow lines end None = (j : ℕ) (l : ℕ × ℕ) → slice_get lines j ≡ Some l → end ≤ l.0
IsLineBelow lines end (Some line) =
    (start : ℕ) × (start < end) × IsLastAt lines start (Some line) × ((j : ℕ) (l : ℕ × ℕ) → slice_get lines j ≡ Some l → l.0 < end → l.0 ≤ start)

-- the line of a program counter: that of the greatest one not above it; none where no line begins there or before
abbrev pub IsLineAt : List (ℕ × ℕ) → ℕ → Option ℕ → Type 0
IsLineAt lines pc line = IsLineBelow lines (pc + 1) line

-- what the table has for a program counter: behind its end what stands last
abbrev pub line_in : LineNumbers → ℕ → Option ℕ
line_in n pc = slice_index_or n.by_pc (if nat_lt pc (length n.by_pc) then pc else length n.by_pc - 1) None

-- each entry is the line of the last pair that begins there
abbrev pub AreLasts : List (ℕ × ℕ) → List (Option ℕ) → Type 0
AreLasts lines by_pc = (start : ℕ) → IsLastAt lines start (slice_index_or by_pc start None)

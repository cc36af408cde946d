-- A body with its instructions by index.
use Rattle.std.specs.Prelude.{◌≡◌, ◌<◌, ◌≤◌, ◌+◌, ℕ, List, Some, slice_get}
use Rattle.class_form.specs.declared.body.Instr.{Instr}

-- the instruction of an index
abbrev pub IsAt : List Instr → ℕ → Instr → Type 0
IsAt instrs k i = slice_get instrs k ≡ Some i

-- each instruction begins before the later ones
abbrev pub AreInOrder : List Instr → Type 0
AreInOrder instrs = (j k : ℕ) (a b : Instr) → j < k → IsAt instrs j a → IsAt instrs k b → a.pc < b.pc

-- the index of the instruction at a pc
abbrev pub IsIndexOf : List Instr → ℕ → ℕ → Type 0
IsIndexOf instrs pc k = (i : Instr) × IsAt instrs k i × (i.pc ≡ pc)

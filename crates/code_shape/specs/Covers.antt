-- Which entries of the exception table cover which instructions.
use Rattle.std.specs.Prelude.{◌≡◌, ◌<◌, ◌≤◌, ◌⊎◌, ℕ, List}
use Rattle.class_form.specs.declared.body.Instr.{Instr}
use Rattle.class_form.specs.declared.class_file.CodeBody.{CodeBody}
use Rattle.class_form.specs.declared.class_file.Handler.{Handler}
use Rattle.class_form.specs.Shapes.{Catches}
use Rattle.code_shape.specs.declared.covers.Range.{Range}
use Rattle.code_shape.specs.declared.covers.Cover.{Cover}
use Rattle.code_shape.specs.Codes.{IsAt}

abbrev pub range_of : Handler → Range
range_of e = record { handler = e.handler; start = e.start; end = e.end }

abbrev pub cover : ℕ → ℕ → Cover
cover index handler = record { index = index; handler = handler }

-- by handler, by start, then by end
abbrev pub RangeBefore : Range → Range → Type 0
RangeBefore a b =
    (a.handler < b.handler) ⊎ ((a.handler ≡ b.handler) × ((a.start < b.start) ⊎ ((a.start ≡ b.start) × (a.end < b.end))))

-- by instruction, then by handler
abbrev pub CoverBefore : Cover → Cover → Type 0
CoverBefore a b = (a.index < b.index) ⊎ ((a.index ≡ b.index) × (a.handler < b.handler))

-- the instruction of the index begins within the two pcs
abbrev pub IsWithin : List Instr → ℕ → ℕ → ℕ → Type 0
IsWithin instrs from to k = (i : Instr) × IsAt instrs k i × (from ≤ i.pc) × (i.pc < to)

abbrev pub CoversFrom : List Instr → ℕ → ℕ → ℕ → Cover → Type 0
CoversFrom instrs from to handler c = (c.handler ≡ handler) × IsWithin instrs from to c.index

-- the range covers the instruction of the index
abbrev pub CoveredBy : List Instr → Range → Cover → Type 0
CoveredBy instrs r c = CoversFrom instrs r.start r.end r.handler c

-- some entry covers the instruction of the index
abbrev pub IsCovered : CodeBody → List Instr → Cover → Type 0
IsCovered body instrs c = (i : Instr) × IsAt instrs c.index i × Catches body i.pc c.handler

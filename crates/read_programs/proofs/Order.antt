-- The instructions of a code are in order of program counter, and the bodies of a program in order of method.
use Rattle.std.proofs.Common.{◌<◌, ◌+◌, ℕ, List, [], ◌∷◌, length, AllPairs, Contains, get_or, arith}
use Rattle.std.proofs.lemmas.List.Elements.{All-contains, Contains-get_or}
use Rattle.std.proofs.lemmas.List.Kept.{AllPairs-cons}
use Rattle.class_form.specs.Instructions.{AreInstrs, form_at}
use Rattle.class_form.specs.declared.pool.Pool.{Pool}
use Rattle.class_form.specs.declared.body.Body.{Body}
use Rattle.class_form.specs.declared.body.Instr.{Instr}
use Rattle.program_form.specs.Programs.{Program}
use Rattle.program_code.specs.Codes.{IsOfMethod, IsProgramOfCode}
use Rattle.program_code.proofs.OneInstruction.{size_some, from_here}

abbrev pub StartsBefore : Instr → Instr → Type 0
StartsBefore i j = i.pc < j.pc

in_order : (code : List ℕ) (pool : Pool) (from : ℕ) (xs : List Instr) (to : ℕ) → AreInstrs code pool from xs to → AllPairs StartsBefore xs
in_order code pool from [] to h = λ i j d lt within. absurd (omega (arith, within))
in_order code pool from (x ∷ xs) to h =
    AllPairs-cons StartsBefore x xs
    (λ k d lt. let above = from_here code pool (from + x.size) xs to (get_or xs k d) h.3 (Contains-get_or xs k d lt) in omega (arith, h.0.place, h.0.size, size_some code from (form_at code from), above))
    (in_order code pool (from + x.size) xs to h.3)

pub instructions_in_order : (p : Program) → IsProgramOfCode p → (b : Body) → Contains p.bodies b → AllPairs (λ (i j : Instr). i.pc < j.pc) b.instrs
instructions_in_order p coded b c =
    let h : IsOfMethod p b = All-contains (IsOfMethod p) p.bodies b coded.bodies c in
    in_order h.5.code h.4.pool 0 b.instrs (length h.5.code) h.9.instrs

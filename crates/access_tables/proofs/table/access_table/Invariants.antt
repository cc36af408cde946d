use Rattle.std.specs.Prelude.{take, List, [], All}
use Rattle.slicer_ids.specs.declared.ids.MethodId.{MethodId}
use Rattle.class_form.specs.ClassRules.{IsClassFile}
use Rattle.dep_form.specs.declared.effects.ModRef.{ModRef}
use Rattle.worklists.specs.Growth.{FromOne}
use Rattle.program_form.specs.Programs.{Program}
use Rattle.fact_form.specs.FactTables.{AreInputs}
use Rattle.fact_form.specs.Handed.{IsProgramWith}
use Rattle.access_tables.specs.Tables.{AddsAccesses, HasAccessIn, RunsInBody}
use Rattle.access_tables.proofs.table.access_table.Given as goal

abbrev pub invariant-loop-body : goal.invariant-loop-body
invariant-loop-body l = (p : Program) (mr : ModRef) (entries : List MethodId) → IsProgramWith p.classes l.bodies l.s p → All IsClassFile p.classes → AreInputs p l.s mr entries l.inputs →
    AddsAccesses [] l.accesses.items (FromOne (RunsInBody l.s) (take l.body-index l.bodies)) (HasAccessIn p l.s l.inputs)

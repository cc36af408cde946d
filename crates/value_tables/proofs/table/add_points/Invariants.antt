use Rattle.std.specs.Prelude.{take, Contains}
use Rattle.worklists.specs.Growth.{FromOne}
use Rattle.program_form.specs.Programs.{Program}
use Rattle.fact_form.specs.Handed.{IsProgramWith}
use Rattle.fact_form.specs.ValueNumbers.{ValueSite}
use Rattle.value_tables.specs.Tables.{AddsValues, IsAtPoint}
use Rattle.value_tables.proofs.table.add_points.Given as goal

abbrev pub invariant-loop-point : goal.invariant-loop-point
invariant-loop-point l = (p : Program) → IsProgramWith p.classes p.bodies l.x.system.now p → Contains p.bodies l.x.body.now →
    AddsValues l.initial.values.items l.values.items (FromOne (IsAtPoint l.x.body.now.method) (take l.point-index l.point-items)) (ValueSite p l.x.system.now)

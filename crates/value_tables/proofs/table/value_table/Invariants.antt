use Rattle.std.specs.Prelude.{take, []}
use Rattle.worklists.specs.Growth.{FromOne}
use Rattle.program_form.specs.Programs.{Program}
use Rattle.fact_form.specs.Handed.{IsProgramWith}
use Rattle.fact_form.specs.ValueNumbers.{ValueSite}
use Rattle.value_tables.specs.Tables.{AddsValues, RunsInBody}
use Rattle.value_tables.proofs.table.value_table.Given as goal

abbrev pub invariant-loop-body : goal.invariant-loop-body
invariant-loop-body l = (p : Program) → IsProgramWith p.classes l.bodies l.s p → AddsValues [] l.values.items (FromOne (RunsInBody l.s) (take l.body-index l.bodies)) (ValueSite p l.s)

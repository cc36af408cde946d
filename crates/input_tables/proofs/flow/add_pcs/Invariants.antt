use Rattle.std.proofs.Common.{take, ◌≡◌}
use Rattle.worklists.specs.Growth.{FromOne}
use Rattle.mod_ref.specs.Gains.{Gains}
use Rattle.input_tables.specs.Control.{IsStepTo}
use Rattle.input_tables.proofs.flow.add_pcs.Given as goal

abbrev pub invariant-loop-pc : goal.invariant-loop-pc
invariant-loop-pc l = Gains l.initial.steps.items l.steps.items (FromOne (IsStepTo l.points l.from) (take l.pc-index l.pcs))

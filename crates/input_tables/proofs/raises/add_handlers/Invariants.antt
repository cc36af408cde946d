use Rattle.std.proofs.Common.{take}
use Rattle.worklists.specs.Growth.{FromOne}
use Rattle.mod_ref.specs.Gains.{Gains}
use Rattle.input_tables.specs.Edges.{IsRaise}
use Rattle.input_tables.proofs.raises.add_handlers.Given as goal

abbrev pub invariant-loop-h : goal.invariant-loop-h
invariant-loop-h l = Gains l.initial.steps.items l.steps.items (FromOne (IsRaise l.q) (take l.h-index l.handlers))

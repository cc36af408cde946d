use Rattle.std.proofs.Common.{take}
use Rattle.worklists.specs.Growth.{FromOne}
use Rattle.mod_ref.specs.Gains.{Gains}
use Rattle.value_tables.specs.Values.{UseHas}
use Rattle.value_tables.proofs.operands.add_operand.Given as goal

abbrev pub invariant-loop-slot_use : goal.invariant-loop-slot_use
invariant-loop-slot_use l = Gains l.initial.sites.items l.sites.items (FromOne (UseHas l.x l.point.pc l.i) (take l.slot_use-index l.slot_use-items))

use Rattle.std.proofs.Common.{take}
use Rattle.variable_tables.proofs.SeenDefs.{IsSeenBy}
use Rattle.variable_tables.proofs.alone.seen_in.Given as goal

abbrev pub invariant-loop-slot_use : goal.invariant-loop-slot_use
invariant-loop-slot_use l = IsSeenBy l.body.shape l.point.pc l.operand (take l.slot_use-index l.slot_use-items) l.seen

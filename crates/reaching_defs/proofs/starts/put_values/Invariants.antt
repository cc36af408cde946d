use Rattle.std.proofs.Common.{take}
use Rattle.worklists.specs.Growth.{Grows, FromOne}
use Rattle.reaching_defs.specs.Starts.{IsValueStart}
use Rattle.reaching_defs.proofs.starts.put_values.Given as goal

abbrev pub invariant-loop-point : goal.invariant-loop-point
invariant-loop-point l = Grows l.initial.starts.items l.starts.items (FromOne IsValueStart (take l.point-index l.points))

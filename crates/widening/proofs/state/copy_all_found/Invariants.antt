use Rattle.std.proofs.Common.{take}
use Rattle.widening.specs.States.{AreSameFound}
use Rattle.widening.proofs.state.copy_all_found.Given as goal

abbrev pub invariant-loop-one : goal.invariant-loop-one
invariant-loop-one l = AreSameFound (take l.one-index l.found) l.copy.items

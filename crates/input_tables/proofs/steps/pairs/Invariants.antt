use Rattle.std.proofs.Common.{◌≡◌, map, take}
use Rattle.input_tables.specs.Control.{pair_of}
use Rattle.input_tables.proofs.steps.pairs.Given as goal

abbrev pub invariant-loop-x : goal.invariant-loop-x
invariant-loop-x l = l.all.items ≡ map pair_of (take l.x-index l.steps)

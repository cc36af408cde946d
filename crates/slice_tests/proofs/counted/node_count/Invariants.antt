use Rattle.std.proofs.Common.{◌≡◌, take}
use Rattle.dep_form.specs.Firsts.{node_count}
use Rattle.slice_tests.proofs.counted.node_count.Given as goal

abbrev pub invariant-loop-input : goal.invariant-loop-input
invariant-loop-input l = l.count ≡ node_count (take l.input-index l.inputs)

use Rattle.points_to.specs.Rules.{call}
use Rattle.points_to.proofs.Listed.{targets_listed}
use Rattle.points_to.proofs.reading.targets_of.Goals as goal

pub returns : goal.returns
returns c = targets_listed c.args.found.now (call c.args.c.0) c.in_ok-numbers.numbers.items c.as_slice.result.now c.in_ok-methods.methods.items c.from_vec.result c.as_slice.ensures.value c.in_ok-numbers.ensures c.in_ok-methods.ensures.len c.in_ok-methods.ensures.each c.from_vec.ensures

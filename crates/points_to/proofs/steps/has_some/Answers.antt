use Rattle.std.proofs.Common.{arith}
use Rattle.points_to.proofs.Moving.{some_listed}
use Rattle.points_to.proofs.steps.has_some.Goals as goal

pub returns : goal.returns
returns c = some_listed c.args.found.now c.args.place c.in_ok-numbers.numbers.items _ c.in_ok-numbers.ensures (grind (arith, c.len.ensures))

use Rattle.std.proofs.Common.{Some}
use Rattle.points_to.specs.Rules.{Copies}
use Rattle.points_to.proofs.Moving.{Moves-skip}
use Rattle.points_to.proofs.constraints.filter.Goals as goal

pub returns-else-fresh-clause-moved : goal.returns-else-fresh-clause-moved
returns-else-fresh-clause-moved c = λ s. Moves-skip s c.args.found.now (Copies c.args.system.now c.args.from c.args.to (Some c.args.keep)) c.if-found.false

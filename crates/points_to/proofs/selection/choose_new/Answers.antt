use Rattle.points_to.specs.Rules.{Chooses}
use Rattle.points_to.proofs.Moving.{Moves-skip}
use Rattle.points_to.proofs.selection.choose_new.Goals as goal

pub returns-else-fresh-clause-moved : goal.returns-else-fresh-clause-moved
returns-else-fresh-clause-moved c = Moves-skip c.args.system.now c.args.found.now (Chooses c.args.system.now c.args.c c.args.signature c.args.object) c.if-found.false

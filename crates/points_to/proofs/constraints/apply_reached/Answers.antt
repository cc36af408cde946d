use Rattle.std.proofs.lemmas.Result.{on_ok_weaker}
use Rattle.std.proofs.lemmas.Bool.{iff_false}
use Rattle.points_to.specs.declared.place.Place.TheVariants.{Running}
use Rattle.points_to.specs.Items.{At}
use Rattle.points_to.specs.Rules.{Does}
use Rattle.points_to.proofs.Moving.{Moves-under, Moves-not_under}
use Rattle.points_to.proofs.constraints.apply_reached.Goals as goal

pub returns-then-knows-clause-moved : goal.returns-then-knows-clause-moved
returns-then-knows-clause-moved c = on_ok_weaker c.apply.result (λ m. Moves-under c.args.system.now c.args.found.now c.apply.new.found (At Running c.args.constraint.method.0) (Does c.args.system.now c.args.constraint.rule) (c.knows.ensures.0 c.if-knows.true) m) c.apply.ensures.moved

pub returns-else-knows-clause-moved : goal.returns-else-knows-clause-moved
returns-else-knows-clause-moved c = Moves-not_under c.args.system.now c.args.found.now (At Running c.args.constraint.method.0) (Does c.args.system.now c.args.constraint.rule) (iff_false c.knows.ensures c.if-knows.false)

use Rattle.std.proofs.lemmas.Result.{on_ok_weaker}
use Rattle.points_to.specs.declared.place.Place.TheVariants.{Variable}
use Rattle.points_to.specs.Items.{IfSome}
use Rattle.points_to.specs.Rules.{BothArguments}
use Rattle.points_to.proofs.Moving.{Moves-if_some}
use Rattle.points_to.proofs.outside.answer.Goals as goal

pub returns-in-Some-clause-moved : goal.returns-in-Some-clause-moved
returns-in-Some-clause-moved c = on_ok_weaker c.answer_to.result (λ m s. Moves-if_some s c.args.found.now c.answer_to.new.found (λ v. IfSome (λ h. BothArguments c.args.system.now c.args.c c.args.call.now (Variable v) c.args.rule.now.reads) c.args.call.now.fresh) c.args.call.now.result c.in-Some.v c.in-Some.is (m s)) c.answer_to.ensures.moved

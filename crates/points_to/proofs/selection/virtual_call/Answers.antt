use Rattle.std.proofs.Common.{subst}
use Rattle.std.proofs.lemmas.Result.{on_ok_weaker}
use Rattle.points_to.specs.declared.place.Place.TheVariants.{Variable}
use Rattle.points_to.specs.Items.{Each, IfSome}
use Rattle.points_to.specs.Rules.{Chooses}
use Rattle.points_to.specs.States.{Moves}
use Rattle.points_to.proofs.selection.virtual_call.Goals as goal

pub returns-clause-moved : goal.returns-clause-moved
returns-clause-moved c = on_ok_weaker c.choose_for.result (λ m. subst (λ o. Moves c.args.system.now c.args.found.now c.choose_for.new.found (IfSome (λ v. Each (Variable v) (Chooses c.args.system.now c.args.c c.args.signature)) o)) c.receiver_at-receiver.ensures m) c.choose_for.ensures.moved

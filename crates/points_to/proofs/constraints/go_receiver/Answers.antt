use Rattle.std.proofs.Common.{subst}
use Rattle.std.proofs.lemmas.Result.{on_ok_weaker}
use Rattle.points_to.specs.declared.place.Place.TheVariants.{Variable, Receivers}
use Rattle.points_to.specs.Items.{Flows, IfSome}
use Rattle.points_to.specs.States.{Moves}
use Rattle.points_to.proofs.constraints.go_receiver.Goals as goal

pub returns-clause-moved : goal.returns-clause-moved
returns-clause-moved c = on_ok_weaker c.go_with.result (λ m s. subst (λ o. Moves s c.args.found.now c.go_with.new.found (IfSome (λ v. Flows (Variable v) (Receivers c.args.c)) o)) c.receiver_of-receiver.ensures (m s)) c.go_with.ensures.moved

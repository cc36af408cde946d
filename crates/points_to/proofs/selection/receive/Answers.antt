use Rattle.std.proofs.Common.{subst}
use Rattle.std.proofs.lemmas.Result.{on_ok_weaker}
use Rattle.points_to.specs.declared.place.Place.TheVariants.{Variable}
use Rattle.points_to.specs.Items.{Adds, IfSome}
use Rattle.points_to.specs.States.{Moves}
use Rattle.points_to.proofs.selection.receive.Goals as goal

pub returns-clause-moved : goal.returns-clause-moved
returns-clause-moved c = on_ok_weaker c.give_some.result (λ m s. subst (λ o. Moves s c.args.found.now c.give_some.new.found (IfSome (λ v. Adds (Variable v) c.args.object) o)) c.formal_at-formal.ensures (m s)) c.give_some.ensures.moved

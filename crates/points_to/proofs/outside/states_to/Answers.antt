use Rattle.std.proofs.Common.{subst}
use Rattle.std.proofs.lemmas.Result.{on_ok_weaker}
use Rattle.points_to.specs.declared.place.Place.TheVariants.{Cell}
use Rattle.points_to.specs.Items.{Flows, OneOf, IfSome}
use Rattle.points_to.specs.Rules.{site, state_of}
use Rattle.points_to.specs.States.{Moves}
use Rattle.points_to.proofs.Moving.{Moves-each}
use Rattle.points_to.proofs.outside.states_to.Goals as goal

pub returns-clause-moved : goal.returns-clause-moved
returns-clause-moved c = on_ok_weaker c.states_each.result (λ m s. Moves-each s c.args.found.now c.states_each.new.found (c.args.from) (λ b. IfSome (λ f. Flows (Cell (site b) f) c.args.to) (state_of c.args.system.now b)) c.in_ok-sites.sites.items c.in_ok-sites.ensures (subst (λ xs. Moves s c.args.found.now c.states_each.new.found (OneOf (λ b. IfSome (λ f. Flows (Cell (site b) f) c.args.to) (state_of c.args.system.now b)) xs)) c.as_slice.ensures.value (m s))) c.states_each.ensures.moved

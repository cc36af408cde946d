use Rattle.std.proofs.Common.{subst}
use Rattle.std.proofs.lemmas.Result.{on_ok_weaker}
use Rattle.points_to.specs.declared.place.Place.TheVariants.{Cell}
use Rattle.points_to.specs.Items.{Flows, OneOf}
use Rattle.points_to.specs.Rules.{site}
use Rattle.points_to.specs.States.{Moves}
use Rattle.points_to.proofs.Moving.{Moves-each}
use Rattle.points_to.proofs.fields.load.Goals as goal

pub returns-clause-moved : goal.returns-clause-moved
returns-clause-moved c = on_ok_weaker c.flow_each_to.result (λ m s. Moves-each s c.args.found.now c.flow_each_to.new.found (c.args.base) (λ o. Flows (Cell (site o) c.args.field) c.args.to) c.in_ok-sites.sites.items c.in_ok-sites.ensures (subst (λ xs. Moves s c.args.found.now c.flow_each_to.new.found (OneOf (λ o. Flows (Cell (site o) c.args.field) c.args.to) xs)) c.as_slice.ensures.value (m s))) c.flow_each_to.ensures.moved

use Rattle.std.proofs.Common.{subst}
use Rattle.std.proofs.lemmas.Result.{on_ok_weaker}
use Rattle.points_to.specs.declared.place.Place.TheVariants.{Cell, Written}
use Rattle.points_to.specs.Items.{Flows, OneOf, IfSome}
use Rattle.points_to.specs.Rules.{site, field_by}
use Rattle.points_to.specs.States.{Moves}
use Rattle.points_to.proofs.Moving.{Moves-each}
use Rattle.points_to.proofs.outside.fill_place.Goals as goal

pub returns-clause-moved : goal.returns-clause-moved
returns-clause-moved c = on_ok_weaker c.fill_each.result (λ m s. Moves-each s c.args.found.now c.fill_each.new.found (c.args.place) (λ b. IfSome (λ f. Flows (Written c.args.c) (Cell (site b) f)) (field_by c.args.system.now c.args.elements b)) c.in_ok-sites.sites.items c.in_ok-sites.ensures (subst (λ xs. Moves s c.args.found.now c.fill_each.new.found (OneOf (λ b. IfSome (λ f. Flows (Written c.args.c) (Cell (site b) f)) (field_by c.args.system.now c.args.elements b)) xs)) c.as_slice.ensures.value (m s))) c.fill_each.ensures.moved

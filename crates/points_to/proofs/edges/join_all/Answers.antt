use Rattle.std.proofs.Common.{subst}
use Rattle.std.proofs.lemmas.Result.{on_ok_weaker}
use Rattle.points_to.specs.declared.place.Place.TheVariants.{Targets}
use Rattle.points_to.specs.Items.{OneOf}
use Rattle.points_to.specs.Rules.{Joins}
use Rattle.points_to.specs.States.{Moves}
use Rattle.points_to.proofs.Moving.{Moves-each}
use Rattle.points_to.proofs.edges.join_all.Goals as goal

pub returns-clause-moved : goal.returns-clause-moved
returns-clause-moved c = on_ok_weaker c.join_each.result (λ m s. Moves-each s c.args.found.now c.join_each.new.found (Targets c.args.c) (Joins c.args.system.now c.args.call.now) c.in_ok-targets.targets.items c.in_ok-targets.ensures (subst (λ xs. Moves s c.args.found.now c.join_each.new.found (OneOf (Joins c.args.system.now c.args.call.now) xs)) c.as_slice.ensures.value (m s))) c.join_each.ensures.moved

use Rattle.points_to.specs.declared.place.Place.TheVariants.{Cell, Written}
use Rattle.points_to.specs.Items.{Flows, IfSome}
use Rattle.points_to.specs.Rules.{site, field_by}
use Rattle.points_to.proofs.Moving.{Moves-start, Moves-more, Moves-all}
use Rattle.points_to.proofs.outside.fill_each.Goals as goal

pub loop-object-init : goal.loop-object-init
loop-object-init c = record { shape = c.requires; moved = λ s. Moves-start s c.args.found.now (λ b. IfSome (λ f. Flows (Written c.args.c) (Cell (site b) f)) (field_by c.args.system.now c.args.elements b)) }

pub loop-object-preserved : goal.loop-object-preserved
loop-object-preserved c = record {
  shape = c.in_ok-fill_site.ensures.shape;
  moved = λ s. Moves-more s (λ b. IfSome (λ f. Flows (Written c.args.c) (Cell (site b) f)) (field_by c.args.system.now c.args.elements b)) c.args.sites.now c.loop-object.object-index _ c.args.found.now c.loop-object.found c.fill_site.new.found c.loop-object-test.true (c.loop-object.invariant.moved s) (c.in_ok-fill_site.ensures.moved s);
}

pub returns-clause-moved : goal.returns-clause-moved
returns-clause-moved c = λ s. Moves-all s (λ b. IfSome (λ f. Flows (Written c.args.c) (Cell (site b) f)) (field_by c.args.system.now c.args.elements b)) c.args.sites.now c.loop-object.object-index c.args.found.now c.loop-object.found c.loop-object-test.false (c.loop-object.invariant.moved s)

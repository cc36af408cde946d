use Rattle.points_to.specs.declared.place.Place.TheVariants.{Cell}
use Rattle.points_to.specs.Items.{Flows}
use Rattle.points_to.specs.Rules.{site}
use Rattle.points_to.proofs.Moving.{Moves-start, Moves-more, Moves-all}
use Rattle.points_to.proofs.fields.flow_each_to.Goals as goal

pub loop-object-init : goal.loop-object-init
loop-object-init c = record { shape = c.requires; moved = λ s. Moves-start s c.args.found.now (λ o. Flows (Cell (site o) c.args.field) c.args.to) }

pub loop-object-preserved : goal.loop-object-preserved
loop-object-preserved c = record {
  shape = c.in_ok-flow.ensures.shape;
  moved = λ s. Moves-more s (λ o. Flows (Cell (site o) c.args.field) c.args.to) c.args.sites.now c.loop-object.object-index _ c.args.found.now c.loop-object.found c.flow.new.found c.loop-object-test.true (c.loop-object.invariant.moved s) (c.in_ok-flow.ensures.moved s);
}

pub returns-clause-moved : goal.returns-clause-moved
returns-clause-moved c = λ s. Moves-all s (λ o. Flows (Cell (site o) c.args.field) c.args.to) c.args.sites.now c.loop-object.object-index c.args.found.now c.loop-object.found c.loop-object-test.false (c.loop-object.invariant.moved s)

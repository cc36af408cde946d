use Rattle.points_to.specs.declared.place.Place.TheVariants.{Cell}
use Rattle.points_to.specs.Items.{Flows, IfSome}
use Rattle.points_to.specs.Rules.{site, state_of}
use Rattle.points_to.proofs.Moving.{Moves-start, Moves-more, Moves-all}
use Rattle.points_to.proofs.outside.states_each.Goals as goal

pub loop-object-init : goal.loop-object-init
loop-object-init c = record { shape = c.requires; moved = λ s. Moves-start s c.args.found.now (λ b. IfSome (λ f. Flows (Cell (site b) f) c.args.to) (state_of c.args.system.now b)) }

pub loop-object-preserved : goal.loop-object-preserved
loop-object-preserved c = record {
  shape = c.in_ok-state_to.ensures.shape;
  moved = λ s. Moves-more s (λ b. IfSome (λ f. Flows (Cell (site b) f) c.args.to) (state_of c.args.system.now b)) c.args.sites.now c.loop-object.object-index _ c.args.found.now c.loop-object.found c.state_to.new.found c.loop-object-test.true (c.loop-object.invariant.moved s) (c.in_ok-state_to.ensures.moved s);
}

pub returns-clause-moved : goal.returns-clause-moved
returns-clause-moved c = λ s. Moves-all s (λ b. IfSome (λ f. Flows (Cell (site b) f) c.args.to) (state_of c.args.system.now b)) c.args.sites.now c.loop-object.object-index c.args.found.now c.loop-object.found c.loop-object-test.false (c.loop-object.invariant.moved s)

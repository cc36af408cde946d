use Rattle.points_to.specs.declared.place.Place.TheVariants.{Cell, Written}
use Rattle.points_to.specs.Items.{Flows, Each, Those, IfSome}
use Rattle.points_to.specs.Rules.{site, field_by, IsArgumentPlace}
use Rattle.points_to.proofs.Moving.{Moves-start, Moves-more, Moves-all}
use Rattle.points_to.proofs.outside.fill.Goals as goal

pub loop-argument-init : goal.loop-argument-init
loop-argument-init c = record { shape = c.requires; moved = λ s. Moves-start s c.args.found.now (λ i. Those (IsArgumentPlace c.args.c c.args.call.now i) (λ p. Each p (λ b. IfSome (λ f. Flows (Written c.args.c) (Cell (site b) f)) (field_by c.args.system.now c.args.elements b)))) }

pub loop-argument-preserved : goal.loop-argument-preserved
loop-argument-preserved c = record {
  shape = c.in_ok-fill_argument.ensures.shape;
  moved = λ s. Moves-more s (λ i. Those (IsArgumentPlace c.args.c c.args.call.now i) (λ p. Each p (λ b. IfSome (λ f. Flows (Written c.args.c) (Cell (site b) f)) (field_by c.args.system.now c.args.elements b)))) c.args.arguments.now c.loop-argument.argument-index _ c.args.found.now c.loop-argument.found c.fill_argument.new.found c.loop-argument-test.true (c.loop-argument.invariant.moved s) (c.in_ok-fill_argument.ensures.moved s);
}

pub returns-clause-moved : goal.returns-clause-moved
returns-clause-moved c = λ s. Moves-all s (λ i. Those (IsArgumentPlace c.args.c c.args.call.now i) (λ p. Each p (λ b. IfSome (λ f. Flows (Written c.args.c) (Cell (site b) f)) (field_by c.args.system.now c.args.elements b)))) c.args.arguments.now c.loop-argument.argument-index c.args.found.now c.loop-argument.found c.loop-argument-test.false (c.loop-argument.invariant.moved s)

use Rattle.points_to.specs.Items.{Those}
use Rattle.points_to.specs.Rules.{Both, IsArgumentPlace}
use Rattle.points_to.proofs.Moving.{Moves-start, Moves-more, Moves-all}
use Rattle.points_to.proofs.outside.both_each.Goals as goal

pub loop-argument-init : goal.loop-argument-init
loop-argument-init c = record { shape = c.requires; moved = λ s. Moves-start s c.args.found.now (λ i. Those (IsArgumentPlace c.args.c c.args.call.now i) (Both c.args.system.now c.args.to)) }

pub loop-argument-preserved : goal.loop-argument-preserved
loop-argument-preserved c = record {
  shape = c.in_ok-both_argument.ensures.shape;
  moved = λ s. Moves-more s (λ i. Those (IsArgumentPlace c.args.c c.args.call.now i) (Both c.args.system.now c.args.to)) c.args.arguments.now c.loop-argument.argument-index _ c.args.found.now c.loop-argument.found c.both_argument.new.found c.loop-argument-test.true (c.loop-argument.invariant.moved s) (c.in_ok-both_argument.ensures.moved s);
}

pub returns-clause-moved : goal.returns-clause-moved
returns-clause-moved c = λ s. Moves-all s (λ i. Those (IsArgumentPlace c.args.c c.args.call.now i) (Both c.args.system.now c.args.to)) c.args.arguments.now c.loop-argument.argument-index c.args.found.now c.loop-argument.found c.loop-argument-test.false (c.loop-argument.invariant.moved s)

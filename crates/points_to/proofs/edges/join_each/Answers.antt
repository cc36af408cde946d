use Rattle.points_to.specs.Rules.{Joins}
use Rattle.points_to.proofs.Moving.{Moves-start, Moves-more, Moves-all}
use Rattle.points_to.proofs.edges.join_each.Goals as goal

pub loop-target-init : goal.loop-target-init
loop-target-init c = record { shape = c.requires; moved = λ s. Moves-start s c.args.found.now (Joins c.args.system.now c.args.call.now) }

pub loop-target-preserved : goal.loop-target-preserved
loop-target-preserved c = record {
  shape = c.in_ok-join_one.ensures.shape;
  moved = λ s. Moves-more s (Joins c.args.system.now c.args.call.now) c.args.targets.now c.loop-target.target-index _ c.args.found.now c.loop-target.found c.join_one.new.found c.loop-target-test.true (c.loop-target.invariant.moved s) (c.in_ok-join_one.ensures.moved s);
}

pub returns-clause-moved : goal.returns-clause-moved
returns-clause-moved c = λ s. Moves-all s (Joins c.args.system.now c.args.call.now) c.args.targets.now c.loop-target.target-index c.args.found.now c.loop-target.found c.loop-target-test.false (c.loop-target.invariant.moved s)

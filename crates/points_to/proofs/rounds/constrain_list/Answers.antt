use Rattle.points_to.specs.Rules.{Constrains}
use Rattle.points_to.proofs.Moving.{Moves-start, Moves-more, Moves-all}
use Rattle.points_to.proofs.rounds.constrain_list.Goals as goal

pub loop-constraint-init : goal.loop-constraint-init
loop-constraint-init c = record { shape = c.requires.shape; moved = Moves-start c.args.system.now c.args.found.now (Constrains c.args.system.now) }

pub loop-constraint-preserved : goal.loop-constraint-preserved
loop-constraint-preserved c = record {
  shape = c.in_ok-constrain.ensures.shape;
  moved = Moves-more c.args.system.now (Constrains c.args.system.now) c.args.constraints.now c.loop-constraint.constraint-index _ c.args.found.now c.loop-constraint.found c.constrain.new.found c.loop-constraint-test.true c.loop-constraint.invariant.moved c.in_ok-constrain.ensures.moved;
}

pub returns-clause-moved : goal.returns-clause-moved
returns-clause-moved c = Moves-all c.args.system.now (Constrains c.args.system.now) c.args.constraints.now c.loop-constraint.constraint-index c.args.found.now c.loop-constraint.found c.loop-constraint-test.false c.loop-constraint.invariant.moved

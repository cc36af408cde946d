use Rattle.points_to.specs.Rules.{Chooses}
use Rattle.points_to.proofs.Moving.{Moves-start, Moves-more, Moves-all}
use Rattle.points_to.proofs.selection.choose_each.Goals as goal

pub loop-object-init : goal.loop-object-init
loop-object-init c = record { shape = c.requires.shape; moved = Moves-start c.args.system.now c.args.found.now (Chooses c.args.system.now c.args.c c.args.signature) }

pub loop-object-preserved : goal.loop-object-preserved
loop-object-preserved c = record {
  shape = c.in_ok-choose_new.ensures.shape;
  moved = Moves-more c.args.system.now (Chooses c.args.system.now c.args.c c.args.signature) c.args.sites.now c.loop-object.object-index _ c.args.found.now c.loop-object.found c.choose_new.new.found c.loop-object-test.true c.loop-object.invariant.moved c.in_ok-choose_new.ensures.moved;
}

pub returns-clause-moved : goal.returns-clause-moved
returns-clause-moved c = Moves-all c.args.system.now (Chooses c.args.system.now c.args.c c.args.signature) c.args.sites.now c.loop-object.object-index c.args.found.now c.loop-object.found c.loop-object-test.false c.loop-object.invariant.moved

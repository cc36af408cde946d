use Rattle.points_to.specs.declared.groups.Select.{Select}
use Rattle.points_to.specs.Items.{IfSome}
use Rattle.points_to.specs.Rules.{Selects}
use Rattle.points_to.proofs.Moving.{Moves-start, Moves-more, Moves-all}
use Rattle.points_to.proofs.selection.select_each.Goals as goal

pub loop-one-init : goal.loop-one-init
loop-one-init c = record { shape = c.requires; moved = λ s. Moves-start s c.args.found.now (λ (x : Select). IfSome (Selects c.args.system.now c.args.c c.args.object) x.target) }

pub loop-one-preserved : goal.loop-one-preserved
loop-one-preserved c = record {
  shape = c.in_ok-select_one.ensures.shape;
  moved = λ s. Moves-more s (λ (x : Select). IfSome (Selects c.args.system.now c.args.c c.args.object) x.target) c.args.chosen.now c.loop-one.one-index _ c.args.found.now c.loop-one.found c.select_one.new.found c.loop-one-test.true (c.loop-one.invariant.moved s) (c.in_ok-select_one.ensures.moved s);
}

pub returns-clause-moved : goal.returns-clause-moved
returns-clause-moved c = λ s. Moves-all s (λ (x : Select). IfSome (Selects c.args.system.now c.args.c c.args.object) x.target) c.args.chosen.now c.loop-one.one-index c.args.found.now c.loop-one.found c.loop-one-test.false (c.loop-one.invariant.moved s)

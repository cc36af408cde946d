use Rattle.std.proofs.Common.{subst}
use Rattle.points_to.specs.Indexes.{AreBelow}
use Rattle.points_to.proofs.Filtering.{none_below, one_below}
use Rattle.std.proofs.lemmas.List.{take_all}
use Rattle.points_to.proofs.filters.below.Goals as goal

pub loop-pair-init : goal.loop-pair-init
loop-pair-init c = none_below c.new-rows.result.items c.new-rows.ensures.items

pub loop-pair-preserved : goal.loop-pair-preserved
loop-pair-preserved c = one_below c.args.subclasses.now c.loop-pair.pair-index _ c.loop-pair.rows.items c.add_below.new.rows.items c.loop-pair-test.true c.loop-pair.invariant c.in_ok-add_below.ensures

pub returns : goal.returns
returns c = subst (λ xs. AreBelow xs c.loop-pair.rows.items) (take_all c.loop-pair.pair-index c.args.subclasses.now c.loop-pair-test.false) c.loop-pair.invariant

use Rattle.points_to.proofs.Filtering.{no_masks}
use Rattle.points_to.proofs.filters.masks.Goals as goal

pub loop-constraint-init : goal.loop-constraint-init
loop-constraint-init c = no_masks c.args.system.now c.new-masks.result.items c.new-masks.ensures.items

pub loop-constraint-preserved : goal.loop-constraint-preserved
loop-constraint-preserved c = c.in_ok-add_of.ensures

use Rattle.std.proofs.Common.{subst, sym}
use Rattle.points_to.specs.Indexes.{AreMasks}
use Rattle.points_to.proofs.Filtering.{masks_more}
use Rattle.points_to.proofs.filters.widen_masks.Goals as goal

pub loop-masks-preserved : goal.loop-masks-preserved
loop-masks-preserved c = λ s h. subst (λ xs. AreMasks s xs) (sym c.in_ok-push.ensures.items) (masks_more s c.loop-masks.masks.items (c.loop-masks.invariant s h))

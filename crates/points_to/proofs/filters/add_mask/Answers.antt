use Rattle.points_to.proofs.Filtering.{masks_set}
use Rattle.points_to.proofs.filters.add_mask.Goals as goal

pub returns-in_ok-mask : goal.returns-in_ok-mask
returns-in_ok-mask c = masks_set c.args.system.now c.widen_masks.new.masks.items c.args.keep c.in_ok-mask.mask c.in_ok-widen_masks.ensures.len (c.in_ok-widen_masks.ensures.same c.args.system.now c.requires.masks) c.in_ok-mask.ensures

pub returns-else-is_none : goal.returns-else-is_none
returns-else-is_none c = c.in_ok-widen_masks.ensures.same c.args.system.now c.requires.masks

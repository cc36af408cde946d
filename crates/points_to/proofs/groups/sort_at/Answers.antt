use Rattle.points_to.proofs.Grouping.{group_sorted}
use Rattle.points_to.proofs.groups.sort_at.Goals as goal

pub returns : goal.returns
returns c = group_sorted c.args.groups.now.items c.args.at c.index_mut.result.now c.sort_group.new.group c.requires c.index_mut.ensures.value c.sort_group.ensures.same c.sort_group.ensures.sorted

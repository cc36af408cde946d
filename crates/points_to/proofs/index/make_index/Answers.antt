use Rattle.std.proofs.Common.{subst}
use Rattle.points_to.specs.Indexes.{AreBelow, AreGroupsOf}
use Rattle.points_to.proofs.index.make_index.Goals as goal

pub returns : goal.returns
returns c = record {
  small = c.requires;
  groups = subst (λ xs. AreGroupsOf xs c.in_ok-groups.groups.items) c.items.ensures c.in_ok-groups.ensures.groups;
  sorted = c.in_ok-groups.ensures.sorted;
  below = subst (λ xs. AreBelow xs c.in_ok-below.below.items) c.items-2.ensures c.in_ok-below.ensures;
  masks = c.in_ok-masks.ensures;
}

use Rattle.std.proofs.Common.{◌∙◌, ℕ, List, subst}
use Rattle.std.specs.List.Sorted.{IsPermutation}
use Rattle.class_writer.proofs.Neighbours.{sorted_decides}
use Rattle.class_writer.proofs.distinct.are_distinct.Goals as goal

pub returns : goal.returns
returns c =
    c.differ.ensures
    ∙ sorted_decides c.args.pool.now c.args.members.now c.sort.new.names
    (subst (λ (xs : List (ℕ × ℕ)). IsPermutation xs c.sort.new.names) c.set_names.ensures c.sort.ensures.permutation) c.sort.ensures.sorted

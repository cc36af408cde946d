use Rattle.std.proofs.Common.{rules}
use Rattle.std.specs.Ordering.{nat_cmp, is_lt}
use Rattle.std.specs.Cmp.Lexicographic.{slice_cmp}
use Rattle.std.proofs.lemmas.Cmp.{nat_list_cmp_total}
use Rattle.std.proofs.lemmas.List.Sorted.{ranks_by, answers_always}
use Rattle.hierarchy.specs.Names.{name_bytes}
use Rattle.hierarchy.proofs.sorted.sort_classes.Goals as goal

pub returns-clause-sorted : goal.returns-clause-sorted
returns-clause-sorted c =
    c.sort_unstable_by.ensures.sorted (λ x y. is_lt (slice_cmp nat_cmp (name_bytes x) (name_bytes y))) (ranks_by nat_list_cmp_total name_bytes)
    (answers_always _ _ _ (λ f a r g h. search rules))

use Rattle.std.proofs.Common.{rules}
use Rattle.std.specs.Ordering.{is_lt}
use Rattle.std.proofs.lemmas.Fn.{always_returns_same}
use Rattle.std.proofs.lemmas.List.Sorted.{ranks_by}
use Rattle.class_writer.specs.Names.{names_cmp}
use Rattle.class_writer.proofs.Neighbours.{names_total}
use Rattle.class_writer.proofs.distinct.sort.Goals as goal

pub returns-clause-sorted : goal.returns-clause-sorted
returns-clause-sorted c =
    c.sort_unstable_by.ensures.sorted (λ x y. is_lt (names_cmp c.args.pool.now x y)) (ranks_by (names_total c.args.pool.now) (λ x. x))
    (always_returns_same _ _ _ (λ a r f k. (search rules, search rules)))

use Rattle.std.proofs.Common.{◌≡◌, ap, rules}
use Rattle.std.specs.Ordering.{is_lt}
use Rattle.std.proofs.lemmas.Fn.{always_returns_same}
use Rattle.std.proofs.lemmas.List.Sorted.{ranks_by}
use Rattle.hierarchy.specs.Places.{texts_at, texts_cmp}
use Rattle.hierarchy.proofs.Keys.{texts_total}
use Rattle.hierarchy.proofs.members.sort_by_texts.Goals as goal

pub returns-clause-sorted : goal.returns-clause-sorted
returns-clause-sorted c =
    let key = texts_at c.args.kind c.args.classes.now in
    c.sort_unstable_by.ensures.sorted (λ x y. is_lt (texts_cmp (key x) (key y))) (ranks_by texts_total key)
    (always_returns_same _ _ _ (λ a r g h. (let e : r ≡ texts_cmp (key a.0.now) (key a.1.0.now) = search rules in ap is_lt e, search rules)))

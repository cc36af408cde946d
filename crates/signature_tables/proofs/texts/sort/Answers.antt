use Rattle.std.proofs.Common.{◌≡◌, ap, rules}
use Rattle.std.specs.Ordering.{is_lt}
use Rattle.std.proofs.lemmas.Fn.{always_returns_same}
use Rattle.std.proofs.lemmas.List.Sorted.{ranks_by}
use Rattle.hierarchy.specs.Places.{texts_cmp}
use Rattle.hierarchy.proofs.Keys.{texts_total}
use Rattle.signature_tables.specs.TextPairs.{texts_in}
use Rattle.signature_tables.proofs.texts.sort.Goals as goal

pub returns-clause-sorted : goal.returns-clause-sorted
returns-clause-sorted c =
    c.sort_unstable_by.ensures.sorted (λ x y. is_lt (texts_cmp (texts_in x) (texts_in y))) (ranks_by texts_total texts_in)
    (always_returns_same _ _ _ (λ a r g h. (let e : r ≡ texts_cmp (texts_in a.0.now) (texts_in a.1.0.now) = search rules in ap is_lt e, search rules)))

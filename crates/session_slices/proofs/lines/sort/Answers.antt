use Rattle.std.proofs.Common.{◌≡◌, ap, rules}
use Rattle.std.specs.Ordering.{is_lt}
use Rattle.std.proofs.lemmas.Fn.{always_returns_same}
use Rattle.std.proofs.lemmas.List.Sorted.{ranks_by}
use Rattle.report.specs.declared.reply.LinePlace.{LinePlace}
use Rattle.session_slices.specs.SliceLines.{place_cmp}
use Rattle.session_slices.proofs.LineOrder.{lines_total}
use Rattle.session_slices.proofs.lines.sort.Goals as goal

pub returns-clause-sorted : goal.returns-clause-sorted
returns-clause-sorted c =
    c.sort_unstable_by.ensures.sorted (λ x y. is_lt (place_cmp x y)) (ranks_by lines_total (λ (l : LinePlace). l))
    (always_returns_same _ _ _ (λ a r g h. (let e : r ≡ place_cmp a.0.now a.1.0.now = search rules in ap is_lt e, search rules)))

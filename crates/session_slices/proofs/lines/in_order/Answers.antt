use Rattle.std.specs.Ordering.{eq_by_cmp}
use Rattle.session_state.proofs.Sorting.{sorted_rises, sorted_members}
use Rattle.session_slices.specs.SliceLines.{place_cmp}
use Rattle.session_slices.proofs.LineOrder.{lines_exact, lines_in_pairs}
use Rattle.session_slices.proofs.lines.in_order.Goals as goal

pub returns-clause-order : goal.returns-clause-order
returns-clause-order c = lines_in_pairs _ (sorted_rises (eq_by_cmp place_cmp) place_cmp lines_exact _ _ c.sorted-lines.ensures.sorted c.keep_first.ensures)

pub returns-clause-members : goal.returns-clause-members
returns-clause-members c = sorted_members (eq_by_cmp place_cmp) place_cmp lines_exact _ _ _ c.sorted-lines.ensures.same c.keep_first.ensures

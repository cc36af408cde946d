use Rattle.std.proofs.Common.{◌≡◌, ℕ, ◌<◌, ◌≤◌, ◌-◌, length}
use Rattle.std.specs.Prelude.{slice_index}
use Rattle.dep_form.specs.Summaries.{IsMask}
use Rattle.summary_memo.specs.Places.{width}
use Rattle.summary_memo.specs.Rule.{Knows}
use Rattle.summary_memo.specs.Memo.{facts_of, view_of, IsSeatOf}
use Rattle.summary_memo.proofs.memo.Memo.copy.Given as goal

abbrev pub invariant-loop-k : goal.invariant-loop-k
invariant-loop-k l =
    (l.k ≤ width (facts_of l.self) l.e)
    × IsSeatOf l.self l.seat
    × Knows (view_of l.initial.seat) (view_of l.seat)
    × ((j : ℕ) → j < l.k → IsMask (facts_of l.self) l.mode l.e j (slice_index l.into.items j))
    × (length l.into.items ≡ length l.initial.into.items)

abbrev pub decreases-loop-k : goal.decreases-loop-k
decreases-loop-k l = width (facts_of l.self) l.e - l.k

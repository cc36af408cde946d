use Rattle.std.proofs.Common.{◌≤◌, ◌-◌, length}
use Rattle.summary_memo.specs.Memo.{facts_of, view_of, IsSeatOf}
use Rattle.summary_memo.specs.Rule.{Knows}
use Rattle.summary_memo.proofs.Knowing.{HasOffered}
use Rattle.summary_memo.proofs.memo.Memo.fill.Given as goal

abbrev pub invariant-loop-k : goal.invariant-loop-k
invariant-loop-k l =
    (l.k ≤ length l.words)
    × IsSeatOf l.self l.seat
    × Knows (view_of l.initial.seat) (view_of l.seat)
    × HasOffered (view_of l.seat) (facts_of l.self) l.e l.mode l.words l.k

abbrev pub decreases-loop-k : goal.decreases-loop-k
decreases-loop-k l = length l.words - l.k

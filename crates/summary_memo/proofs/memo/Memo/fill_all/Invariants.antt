use Rattle.std.proofs.Common.{ℕ, List, take, Contains}
use Rattle.slicer_ids.specs.declared.ids.ExitId.{ExitId}
use Rattle.summary_memo.specs.Memo.{facts_of, view_of, IsSeatOf}
use Rattle.summary_memo.specs.Rule.{Knows, KnowsShut}
use Rattle.summary_memo.proofs.memo.Memo.fill_all.Given as goal

abbrev pub invariant-loop-row : goal.invariant-loop-row
invariant-loop-row l = record {
  seat : IsSeatOf l.self l.seat;
  knows : Knows (view_of l.initial.seat) (view_of l.seat);
  shut : (d : ExitId) (row : List ℕ) → Contains (take l.row-index l.rows) (d, row) → KnowsShut (view_of l.seat) (facts_of l.self) d l.mode;
}

use Rattle.summary_memo.specs.Memo.{IsSeatOf}
use Rattle.thin_slice.specs.Walks.{IsWalkOf}
use Rattle.slice_bench.proofs.walks.find_again.Given as goal

abbrev pub invariant-loop : goal.invariant-loop
invariant-loop l = record {
  seat : IsSeatOf l.memo l.seat;
  walk : IsWalkOf l.f l.walk;
}

use Rattle.std.proofs.Common.{◌≤◌, length, map, vec_capacity}
use Rattle.summary_memo.specs.Memo.{IsSeatOf}
use Rattle.serving.specs.Seated.{AreSeated}
use Rattle.serving.proofs.SeatedDesks.{first_of, second_of}
use Rattle.serving.proofs.seating.seat_all.Given as goal

-- the pairs so far were seated
abbrev pub invariant-loop-source : goal.invariant-loop-source
invariant-loop-source g l = record {
  seat : IsSeatOf l.shared.memo l.seat;
  so : AreSeated l.shared (map first_of l.yielded) (map second_of l.yielded) l.desks.items l.back.items;
  room_desks : length l.fn.sinks.items ≤ vec_capacity l.desks;
  room_back : length l.fn.sinks.items ≤ vec_capacity l.back;
}

use Rattle.std.proofs.Common.{◌≡◌}
use Rattle.graph_store.specs.Store.{IsPassOf, HasInputsOf, Keeps}
use Rattle.summary_memo.specs.Memo.{view_of, IsSeatOf}
use Rattle.summary_memo.specs.Rule.{Knows}
use Rattle.thin_slice.specs.Walks.{IsWalking, AreServed, IsFetched, IsAllFetched, ModeSlice, seeds_of}
use Rattle.session_walk.specs.Knowledge.{Sees, KnowsRows, HasRows}
use Rattle.session_walk.specs.Missing.{all_missing}
use Rattle.session_walk.proofs.walking.walk_on.Given as goal

abbrev pub invariant-loop : goal.invariant-loop
invariant-loop g l = record {
  pass : IsPassOf l.store.cells.items l.pass;
  inputs : HasInputsOf l.f l.pass;
  keeps : Keeps l.initial.pass l.pass;
  seat : IsSeatOf l.memo l.seat;
  knows : Knows (view_of l.initial.seat) (view_of l.seat);
  walking : IsWalking l.f l.mode l.walk;
  seeds : seeds_of l.walk ≡ seeds_of l.initial.walk;
  served : AreServed l.f (Sees l.f l.pass) (KnowsRows l.f l.mode (view_of l.seat)) l.walk;
  last : IsFetched (Sees l.f l.pass) (KnowsRows l.f l.mode (view_of l.seat)) l.walk.last;
  had : IsAllFetched l.f l.mode (seeds_of l.initial.walk) (Sees l.f l.initial.pass) (KnowsRows l.f l.mode (view_of l.initial.seat)) → l.steps ≡ l.initial.steps;
  rows : HasRows l.f l.mode (ModeSlice l.f l.mode (seeds_of l.initial.walk)) (view_of l.initial.seat) → l.steps ≡ l.initial.steps;
}

abbrev pub decreases-loop : goal.decreases-loop
decreases-loop g l = all_missing l.f l.mode l.pass (view_of l.seat)

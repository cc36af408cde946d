use Rattle.std.proofs.Common.{◌≡◌, ◌≤◌, length, map, vec_capacity}
use Rattle.serving.specs.Seated.{sink_at}
use Rattle.serving.proofs.taking.take_sinks.Given as goal

-- the sinks of the desks so far
abbrev pub invariant-loop-desk : goal.invariant-loop-desk
invariant-loop-desk g l = record {
  so : l.all.items ≡ map sink_at l.yielded;
  room : vec_capacity l.all ≡ vec_capacity l.fn.all;
}

use Rattle.std.proofs.Common.{◌≡◌, ◌≤◌, ◌++◌, length, map, vec_capacity}
use Rattle.serving.proofs.taking.keep_all.Given as goal

-- the sinks so far stand behind the others
abbrev pub invariant-loop-sink : goal.invariant-loop-sink
invariant-loop-sink g l = record {
  so : l.all.items ≡ l.fn.all.items ++ l.yielded;
  room : vec_capacity l.all ≡ vec_capacity l.fn.all;
}

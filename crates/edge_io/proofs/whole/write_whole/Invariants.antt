use Rattle.std.proofs.Common.{length, ◌-◌, ◌≡◌, ℕ, ◌<◌, ◌≤◌, true, take, ◌++◌}
use Rattle.edge_io.specs.Reads.{appended}
use Rattle.edge_io.proofs.whole.write_whole.Given as goal

-- the bytes so far were written
abbrev pub invariant-loop-at : goal.invariant-loop-at
invariant-loop-at g l =
    let written = g.K.Sink.written in
    let faults = g.K.Sink.faults in
    let label = g.K.Sink.label in
    let steady = g.K.Sink.steady in
    record {
      within : l.at ≤ length l.bytes;
      text : written l.sink ≡ appended (take l.at l.bytes) (written l.initial.sink);
      same_label : label l.sink ≡ label l.initial.sink;
      count : faults l.initial.sink ≤ faults l.sink;
      as_steady : steady l.sink ≡ steady l.initial.sink;
      still : steady l.initial.sink ≡ true → faults l.sink ≡ faults l.initial.sink;
    }

abbrev pub decreases-loop-at : goal.decreases-loop-at
decreases-loop-at g l = length l.bytes - l.at

use Rattle.std.proofs.Common.{◌≡◌, ℕ, ◌<◌, ◌≤◌, true, length, take, drop, ◌++◌, IfSome, ◌-◌}
use Rattle.std.specs.Option.{option_map}
use Rattle.edge_io.proofs.whole.read_up_to.Given as goal

-- the bytes so far stand before those that are left
abbrev pub invariant-loop-buffer : goal.invariant-loop-buffer
invariant-loop-buffer g l =
    let left = g.S.Source.left in
    let faults = g.S.Source.faults in
    let steady = g.S.Source.steady in
    record {
      within : length l.bytes.items ≤ l.limit;
      rest : left l.source ≡ option_map (drop (length l.bytes.items)) (left l.initial.source);
      read : IfSome (left l.initial.source) (λ all. l.bytes.items ≡ take (length l.bytes.items) all);
      count : faults l.initial.source ≤ faults l.source;
      as_steady : steady l.source ≡ steady l.initial.source;
      still : steady l.initial.source ≡ true → faults l.source ≡ faults l.initial.source;
    }

abbrev pub decreases-loop-buffer : goal.decreases-loop-buffer
decreases-loop-buffer g l = l.limit - length l.bytes.items

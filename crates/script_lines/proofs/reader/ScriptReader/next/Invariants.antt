use Rattle.std.proofs.Common.{◌≡◌, ◌≤◌, ◌-◌, ℕ, List, true}
use Rattle.script_lines.specs.Limits.{most_bytes}
use Rattle.script_lines.specs.Reading.{IsBetween, IsWithin}
use Rattle.script_lines.proofs.reader.ScriptReader.next.Given as goal

abbrev pub invariant-loop-next : goal.invariant-loop-next
invariant-loop-next g l =
    let left = g.S.Source.left in
    let faults = g.S.Source.faults in
    let steady = g.S.Source.steady in
    record {
      within : (script : List ℕ) (lines : List (List ℕ)) → IsBetween script lines l.fn.self (left l.fn.source) → (rest : List ℕ) × IsWithin script lines rest l.self (left l.source);
      bytes : l.fn.self.bytes ≤ l.self.bytes;
      count : faults l.fn.source ≤ faults l.source;
      as_steady : steady l.source ≡ steady l.fn.source;
      still : steady l.fn.source ≡ true → faults l.source ≡ faults l.fn.source;
    }

abbrev pub decreases-loop-next : goal.decreases-loop-next
decreases-loop-next g l = most_bytes - l.self.bytes

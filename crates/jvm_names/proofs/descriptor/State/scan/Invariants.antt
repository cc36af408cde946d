use Rattle.std.proofs.Common.{◌≡◌, ◌+◌, drop}
use Rattle.class_form.specs.NameTests.{reached, steps_taken, go_on_descriptor}
use Rattle.jvm_names.specs.States.{state_of}
use Rattle.jvm_names.proofs.descriptor.State.scan.Given as goal

abbrev pub invariant-loop-at : goal.invariant-loop-at
invariant-loop-at l = record {
  goes_on : reached go_on_descriptor (state_of l.state) (drop l.at l.bytes) ≡ reached go_on_descriptor (state_of l.fn.self) l.bytes;
  counts : l.at + steps_taken go_on_descriptor (state_of l.state) (drop l.at l.bytes) ≡ steps_taken go_on_descriptor (state_of l.fn.self) l.bytes;
}

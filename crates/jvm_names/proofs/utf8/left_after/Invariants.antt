use Rattle.std.proofs.Common.{◌≡◌, drop}
use Rattle.class_form.specs.NameTests.{reached, go_on, Nothing}
use Rattle.jvm_names.specs.States.{left_of}
use Rattle.jvm_names.proofs.utf8.left_after.Given as goal

abbrev pub invariant-loop-byte : goal.invariant-loop-byte
invariant-loop-byte l = reached go_on (left_of l.left) (drop l.byte-index l.bytes) ≡ reached go_on Nothing l.bytes

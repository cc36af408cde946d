use Rattle.std.proofs.Common.{◌≡◌, drop}
use Rattle.class_form.specs.NameTests.{reached, go_on_name, Fresh}
use Rattle.jvm_names.specs.States.{name_of}
use Rattle.jvm_names.proofs.names.place_after.Given as goal

abbrev pub invariant-loop-byte : goal.invariant-loop-byte
invariant-loop-byte l = reached go_on_name (name_of l.place) (drop l.byte-index l.bytes) ≡ reached go_on_name Fresh l.bytes

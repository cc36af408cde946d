use Rattle.std.proofs.Common.{◌≡◌, drop}
use Rattle.std.specs.List.{list_all}
use Rattle.class_form.specs.NameTests.{is_outside_brackets}
use Rattle.jvm_names.proofs.names.are_outside_brackets.Given as goal

abbrev pub invariant-loop-byte : goal.invariant-loop-byte
invariant-loop-byte l = list_all is_outside_brackets (drop l.byte-index l.bytes) ≡ list_all is_outside_brackets l.bytes

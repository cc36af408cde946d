use Rattle.std.proofs.Common.{◌≡◌, drop, false}
use Rattle.class_writer.specs.Tests.{has_one_code}
use Rattle.class_writer.proofs.check_attributes.has_one_code.Given as goal

abbrev pub invariant-loop-attribute : goal.invariant-loop-attribute
invariant-loop-attribute l = has_one_code l.found (drop l.attribute-index l.attributes) ≡ has_one_code false l.attributes

use Rattle.std.proofs.Common.{◌≡◌, length, take}
use Rattle.std.specs.List.{flat_map}
use Rattle.class_form.specs.Spelling.{spell_attribute}
use Rattle.class_writer.specs.Sizes.{capped}
use Rattle.class_writer.proofs.sizes.attributes_size.Given as goal

abbrev pub invariant-loop-attribute : goal.invariant-loop-attribute
invariant-loop-attribute l = l.size ≡ capped (length (flat_map spell_attribute (take l.attribute-index l.attributes)))

use Rattle.std.proofs.Common.{◌≡◌, length, take}
use Rattle.std.specs.List.{flat_map}
use Rattle.class_form.specs.Spelling.{spell_constant}
use Rattle.class_writer.specs.Sizes.{capped}
use Rattle.class_writer.proofs.sizes.constants_size.Given as goal

abbrev pub invariant-loop-constant : goal.invariant-loop-constant
invariant-loop-constant l = l.size ≡ capped (length (flat_map spell_constant (take l.constant-index l.constants)))

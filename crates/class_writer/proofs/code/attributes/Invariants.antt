use Rattle.std.proofs.Common.{◌≡◌, ◌++◌, take}
use Rattle.std.specs.List.{flat_map}
use Rattle.class_form.specs.Spelling.{spell_code_attribute}
use Rattle.class_writer.proofs.code.attributes.Given as goal

abbrev pub invariant-loop-next : goal.invariant-loop-next
invariant-loop-next l = l.output ≡ l.fn.output ++ flat_map spell_code_attribute (take l.next-index l.attributes)

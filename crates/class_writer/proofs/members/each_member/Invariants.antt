use Rattle.std.proofs.Common.{◌≡◌, ◌++◌, take}
use Rattle.std.specs.List.{flat_map}
use Rattle.class_form.specs.Spelling.{spell_member}
use Rattle.class_writer.proofs.members.each_member.Given as goal

abbrev pub invariant-loop-next : goal.invariant-loop-next
invariant-loop-next l = l.output ≡ l.fn.output ++ flat_map spell_member (take l.next-index l.members)

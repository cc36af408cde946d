use Rattle.std.proofs.Common.{◌≡◌, length, take}
use Rattle.std.specs.List.{flat_map}
use Rattle.class_form.specs.Spelling.{spell_member}
use Rattle.class_writer.specs.Sizes.{capped}
use Rattle.class_writer.proofs.sizes.members_size.Given as goal

abbrev pub invariant-loop-member : goal.invariant-loop-member
invariant-loop-member l = l.size ≡ capped (length (flat_map spell_member (take l.member-index l.members)))

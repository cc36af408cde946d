use Rattle.std.proofs.Common.{refl, ◌∙◌}
use Rattle.hierarchy.proofs.Numbering.{members_from}
use Rattle.hierarchy.proofs.members.Members.new.Goals as goal

pub returns : goal.returns
returns c = members_from c.args.kind c.args.classes.now c.requires.named c.in_ok-places.places.items c.by_number.result.items c.in_ok-copied.copied.items c.by_texts.result.items _
    c.in_ok-places.ensures.places c.in_ok-places.ensures.count c.requires.count c.by_number.ensures.same c.by_number.ensures.sorted (c.in_ok-copied.ensures ∙ c.as_slice.ensures.value)
    c.by_texts.ensures.same c.by_texts.ensures.sorted refl refl

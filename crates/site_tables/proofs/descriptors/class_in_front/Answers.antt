use Rattle.std.proofs.Common.{◌≡◌, ◌∷◌, length, take, drop, ap, ◌∙◌, arith}
use Rattle.jvm_names.proofs.InFront.{name_ends}
use Rattle.site_tables.proofs.descriptors.class_in_front.Goals as goal

pub split_at-requires : goal.split_at-requires
split_at-requires c =
    let e = name_ends c.args.bytes.now c.requires.0 c.requires.1 c.requires.2 c.requires.3 in
    omega (arith, e.within, c.name_len.ensures)

pub split_at-requires-2 : goal.split_at-requires-2
split_at-requires-2 c =
    let e = name_ends c.args.bytes.now c.requires.0 c.requires.1 c.requires.2 c.requires.3 in
    let back : c.split_at.result.1.now ≡ 59 ∷ c.requires.1 = c.split_at.ensures.back ∙ ap (λ m. drop m c.args.bytes.now) c.name_len.ensures ∙ e.back in
    omega (arith, ap length back)

pub returns : goal.returns
returns c = λ name rest h e.
    let ends = name_ends c.args.bytes.now name rest h e in
    let back : c.split_at.result.1.now ≡ 59 ∷ rest = c.split_at.ensures.back ∙ ap (λ m. drop m c.args.bytes.now) c.name_len.ensures ∙ ends.back in
    (c.split_at.ensures.front ∙ ap (λ m. take m c.args.bytes.now) c.name_len.ensures ∙ ends.front, c.split_at-2.ensures.back ∙ ap (λ x. drop 1 x) back)

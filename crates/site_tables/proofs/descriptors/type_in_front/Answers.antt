use Rattle.std.proofs.Common.{◌≡◌, length, drop, ap, ◌∙◌, arith}
use Rattle.jvm_names.proofs.InFront.{dimensions_end}
use Rattle.site_tables.proofs.descriptors.type_in_front.Goals as goal

pub split_at-requires : goal.split_at-requires
split_at-requires c =
    let e = dimensions_end c.args.bytes.now c.requires.0.dims c.requires.0.base c.requires.1 c.requires.2.0 c.requires.3 in
    omega (arith, e.within, c.dimensions.ensures)

pub base_in_front-requires : goal.base_in_front-requires
base_in_front-requires c =
    let e = dimensions_end c.args.bytes.now c.requires.0.dims c.requires.0.base c.requires.1 c.requires.2.0 c.requires.3 in
    (c.requires.0.base, c.requires.1, c.requires.2.0, c.split_at.ensures.back ∙ ap (λ m. drop m c.args.bytes.now) c.dimensions.ensures ∙ e.back)

pub overflow_cast-dims : goal.overflow_cast-dims
overflow_cast-dims c =
    let e = dimensions_end c.args.bytes.now c.requires.0.dims c.requires.0.base c.requires.1 c.requires.2.0 c.requires.3 in
    omega (arith, e.count, c.dimensions.ensures, c.split_at.ensures.front_len, c.requires.2.1)

pub returns : goal.returns
returns c = λ t rest is e.
    let bytes = c.args.bytes.now in
    let d = dimensions_end bytes t.dims t.base rest is.0 e in
    let count : length c.split_at.result.0.now ≡ t.dims = omega (arith, d.count, c.dimensions.ensures, c.split_at.ensures.front_len) in
    let base = c.base_in_front.ensures t.base rest is.0 (c.split_at.ensures.back ∙ ap (λ m. drop m bytes) c.dimensions.ensures ∙ d.back) in
    ((count, base.0), base.1)

use Rattle.std.proofs.Common.{◌≡◌, ◌++◌, length, take, drop, ap, sym, ◌∙◌, arith, append_assoc}
use Rattle.std.specs.Prelude.{replicate}
use Rattle.std.proofs.lemmas.List.{take-append-drop}
use Rattle.class_form.specs.Types.{spell_base}
use Rattle.jvm_names.proofs.InFront.{dimensions_end}
use Rattle.jvm_names.proofs.types.type_in_front.Goals as goal

pub split_at-requires : goal.split_at-requires
split_at-requires c =
    let e = dimensions_end c.args.bytes.now c.requires.0.dims c.requires.0.base c.requires.1 c.requires.2.0 c.requires.3 in
    omega (arith, e.within, c.dimensions.ensures)

pub base_in_front-requires : goal.base_in_front-requires
base_in_front-requires c =
    let e = dimensions_end c.args.bytes.now c.requires.0.dims c.requires.0.base c.requires.1 c.requires.2.0 c.requires.3 in
    (c.requires.0.base, c.requires.1, c.requires.2.0, c.split_at.ensures.back ∙ ap (λ m. drop m c.args.bytes.now) c.dimensions.ensures ∙ e.back)

pub overflow_cast-dims : goal.overflow_cast-dims
overflow_cast-dims c =
    let e = dimensions_end c.args.bytes.now c.requires.0.dims c.requires.0.base c.requires.1 c.requires.2.0 c.requires.3 in
    omega (arith, e.count, c.dimensions.ensures, c.split_at.ensures.front_len, c.requires.2.1)

pub returns : goal.returns
returns c =
    let bytes = c.args.bytes.now in
    let e = dimensions_end bytes c.requires.0.dims c.requires.0.base c.requires.1 c.requires.2.0 c.requires.3 in
    let count : length c.split_at.result.0.now ≡ c.requires.0.dims = omega (arith, e.count, c.dimensions.ensures, c.split_at.ensures.front_len) in
    let front : take c.dimensions.result bytes ≡ replicate (length c.split_at.result.0.now) 91 = ap (λ m. take m bytes) c.dimensions.ensures ∙ e.front ∙ ap (λ m. replicate m 91) (sym count) in
    let back : drop c.dimensions.result bytes ≡ spell_base c.in_ok-base.base ++ c.in_ok-base.rest.now = sym c.split_at.ensures.back ∙ c.in_ok-base.ensures.1 in (
      (c.in_ok-base.ensures.0, omega (arith, count, c.requires.2.1)),
      sym (take-append-drop c.dimensions.result bytes) ∙ ap (λ x. x ++ drop c.dimensions.result bytes) front ∙ ap (λ x. replicate (length c.split_at.result.0.now) 91 ++ x) back
          ∙ sym (append_assoc (replicate (length c.split_at.result.0.now) 91) (spell_base c.in_ok-base.base) c.in_ok-base.rest.now),
    )

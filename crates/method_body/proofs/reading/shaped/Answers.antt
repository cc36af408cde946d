use Rattle.std.proofs.Common.{subst, sym, ◌∙◌}
use Rattle.class_form.specs.Shapes.{AreArguments}
use Rattle.body_form.proofs.Slots.{are_arguments}
use Rattle.method_body.proofs.reading.shaped.Goals as goal

pub returns-in-Ok-clause-arguments : goal.returns-in-Ok-clause-arguments
returns-in-Ok-clause-arguments c =
    subst (AreArguments c.args.code.now) (sym (c.in-Ok.ensures.shaped.formals ∙ c.as_slice.ensures.value))
    (are_arguments c.args.pool.now c.args.method.now c.args.code.now c.in_ok-slots.slots.items c.in_ok-slots.ensures.found c.requires.method.room)

pub shape-requires-clause-arguments : goal.shape-requires-clause-arguments
shape-requires-clause-arguments c =
    subst (AreArguments c.args.code.now) (sym c.as_slice.ensures.value)
    (are_arguments c.args.pool.now c.args.method.now c.args.code.now c.in_ok-slots.slots.items c.in_ok-slots.ensures.found c.requires.method.room)

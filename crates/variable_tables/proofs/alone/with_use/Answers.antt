use Rattle.std.proofs.Common.{inl, inr, refl}
use Rattle.class_form.specs.Reaching.{HoldsAt}
use Rattle.class_form.specs.Reaches.{DefBefore}
use Rattle.variable_tables.proofs.SeenDefs.{ordered_members}
use Rattle.variable_tables.proofs.alone.with_use.Goals as goal

pub returns-then-slot_use-operand : goal.returns-then-slot_use-operand
returns-then-slot_use-operand c =
    let s = c.args.body.now.shape in
    inl (
      c.if-slot_use-operand.true,
      λ ds seen. (
        c.at.result.now,
        c.with_defs.ensures ds seen,
        ordered_members DefBefore (HoldsAt s c.args.pc c.args.slot_use.now.slot) c.at.result.now (c.requires.reach c.args.pc c.args.slot_use.now.slot c.at.result.now c.at.ensures),
      ),
    )

pub returns-else-slot_use-operand : goal.returns-else-slot_use-operand
returns-else-slot_use-operand c = inr (c.if-slot_use-operand.false, refl)

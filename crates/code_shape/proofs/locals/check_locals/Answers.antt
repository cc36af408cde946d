use Rattle.std.proofs.Common.{◌≡◌, ◌<◌, ℕ, List, take, get_or, All, Some, refl, sym, ap, subst, ◌∙◌, arith}
use Rattle.std.proofs.lemmas.List.{take_all}
use Rattle.std.proofs.lemmas.List.Elements.{All-more}
use Rattle.class_form.specs.declared.body.Instr.{Instr}
use Rattle.class_form.specs.Shapes.{HasLocal}
use Rattle.code_shape.proofs.Orders.{first_of_kind, read_at, all_before}
use Rattle.code_shape.proofs.locals.check_locals.Goals as goal

pub loop-instr-preserved : goal.loop-instr-preserved
loop-instr-preserved c =
    let x = c.instr-item.result in
    All-more (HasLocal c.args.body.now) c.args.instrs.now c.loop-instr.instr-index x c.loop-instr-test.true c.loop-instr.invariant (subst (HasLocal c.args.body.now) c.instr-item.is (c.has_local.ensures.0 c.if-not-has_local.false))

pub returns-then-not-has_local-clause-err : goal.returns-then-not-has_local-clause-err
returns-then-not-has_local-clause-err c =
    let x = c.instr-item.result in
    let k = c.loop-instr.instr-index in
    let instrs = c.args.instrs.now in (
      x.pc,
      refl,
      first_of_kind instrs (λ i. HasLocal c.args.body.now i → ⊥) k x c.requires.order (read_at instrs k x c.loop-instr-test.true c.instr-item.is)
          (λ h. absurd (cc (c.has_local.ensures.1 h)))
          (λ j i lt at none. none (all_before (HasLocal c.args.body.now) instrs k j i c.loop-instr.invariant (omega (arith, c.loop-instr-test.true)) lt at)),
    )

pub returns-clause-ok : goal.returns-clause-ok
returns-clause-ok c = subst (All (HasLocal c.args.body.now)) (take_all c.loop-instr.instr-index c.args.instrs.now c.loop-instr-test.false) c.loop-instr.invariant

use Rattle.std.proofs.Common.{◌≡◌, Bool, true, false, refl, sym, ◌∙◌, arith}
use Rattle.input_tables.proofs.fresh.is_answered.Goals as goal

is_true : (b : Bool) → (b ≡ false → ⊥) → b ≡ true
is_true true h = refl
is_true false h = absurd (h refl)

pub goes_outside-requires : goal.goes_outside-requires
goes_outside-requires c = omega (arith, c.requires.call, c.requires.scene.solved.outside_calls)

pub returns-then-is_fresh : goal.returns-then-is_fresh
returns-then-is_fresh c =
    let s = c.args.scene.now.system.now in (
      λ e. (c.is_fresh.ensures.0 c.if-is_fresh.true, c.goes_outside.ensures.some s c.requires.scene.solved e),
      λ w. is_true c.goes_outside.result (λ e. c.goes_outside.ensures.none s w.1.0 c.requires.scene.solved e w.1.1),
    )

pub returns-else-is_fresh : goal.returns-else-is_fresh
returns-else-is_fresh c = (λ e. absurd (cc e), λ w. absurd (cc (sym (c.is_fresh.ensures.1 w.0) ∙ c.if-is_fresh.false)))

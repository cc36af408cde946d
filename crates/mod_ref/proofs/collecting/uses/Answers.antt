use Rattle.std.proofs.Common.{◌≡◌, ◌⊎◌, ◌↔◌, List, Contains, false, sym, subst}
use Rattle.mod_ref.specs.Direct.{AtCalls, AtTouches}
use Rattle.mod_ref.specs.declared.effects.Effect.{Effect}
use Rattle.mod_ref.proofs.Gaining.{gains_both, gained}
use Rattle.mod_ref.proofs.Collected.{used_is}
use Rattle.mod_ref.proofs.collecting.uses.Goals as goal

pub returns : goal.returns
returns c = λ x.
    let s = c.args.system.now in
    let one = c.add_touches.new.effects.items.items in
    let two = c.add_calls.new.effects.items.items in
    let all = gains_both c.new-effects.result.items.items one two (AtTouches s false) (AtCalls s false) c.in_ok-add_touches.ensures c.in_ok-add_calls.ensures in
    let is = gained c.new-effects.result.items.items two (λ y. AtTouches s false y ⊎ AtCalls s false y) c.new-effects.ensures all x in
    (λ h. (used_is s x).0 (is.0 (subst (λ (xs : List Effect). Contains xs x) c.into_items.ensures h)), λ h. subst (λ (xs : List Effect). Contains xs x) (sym c.into_items.ensures) (is.1 ((used_is s x).1 h)))

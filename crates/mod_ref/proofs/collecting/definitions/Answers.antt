use Rattle.std.proofs.Common.{◌≡◌, ◌⊎◌, ◌↔◌, List, Contains, true, sym, subst}
use Rattle.mod_ref.specs.Direct.{AtCalls, AtFresh, AtTouches}
use Rattle.mod_ref.specs.declared.effects.Effect.{Effect}
use Rattle.mod_ref.proofs.Gaining.{gains_both, gained}
use Rattle.mod_ref.proofs.Collected.{defined_is}
use Rattle.mod_ref.proofs.collecting.definitions.Goals as goal

pub returns : goal.returns
returns c = λ x.
    let s = c.args.system.now in
    let one = c.add_touches.new.effects.items.items in
    let two = c.add_calls.new.effects.items.items in
    let three = c.add_fresh.new.effects.items.items in
    let all = gains_both c.new-effects.result.items.items two three (λ y. AtTouches s true y ⊎ AtCalls s true y) (AtFresh s) (gains_both c.new-effects.result.items.items one two (AtTouches s true) (AtCalls s true) c.in_ok-add_touches.ensures c.in_ok-add_calls.ensures) c.in_ok-add_fresh.ensures in
    let is = gained c.new-effects.result.items.items three (λ y. (AtTouches s true y ⊎ AtCalls s true y) ⊎ AtFresh s y) c.new-effects.ensures all x in
    (λ h. (defined_is s x).0 (is.0 (subst (λ (xs : List Effect). Contains xs x) c.into_items.ensures h)), λ h. subst (λ (xs : List Effect). Contains xs x) (sym c.into_items.ensures) (is.1 ((defined_is s x).1 h)))

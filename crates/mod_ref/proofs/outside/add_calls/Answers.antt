use Rattle.std.proofs.Common.{◌≡◌, ℕ, List, length, ap, subst, ◌∙◌, arith}
use Rattle.worklists.proofs.Growing.{FromBelow}
use Rattle.dep_form.specs.declared.call_site.CallSite.{CallSite}
use Rattle.mod_ref.specs.Gains.{Gains}
use Rattle.mod_ref.specs.Direct.{AtCalls, AtNumber}
use Rattle.mod_ref.proofs.Gaining.{gains_zero, gains_next, gains_same}
use Rattle.mod_ref.proofs.Passing.{calls_is}
use Rattle.mod_ref.proofs.outside.add_calls.Goals as goal

pub loop-number-init : goal.loop-number-init
loop-number-init c = gains_zero (AtNumber c.args.system.now c.args.write) c.args.effects.now.items.items

pub loop-number-preserved : goal.loop-number-preserved
loop-number-preserved c = gains_next (AtNumber c.args.system.now c.args.write) c.loop-number.number c.args.effects.now.items.items c.loop-number.effects.items.items c.add_number.new.effects.items.items c.loop-number.invariant c.in_ok-add_number.ensures

pub returns : goal.returns
returns c =
    let s = c.args.system.now in
    let end : c.loop-number.number ≡ length s.calls = omega (arith, c.loop-number-test.false, c.loop-number.auto.number-end, ap (λ (ks : List CallSite). length ks) c.items-number-end.ensures) in
    gains_same c.args.effects.now.items.items c.loop-number.effects.items.items (FromBelow (AtNumber s c.args.write) (length s.calls)) (AtCalls s c.args.write) (calls_is s c.args.write)
    (subst (λ (n : ℕ). Gains c.args.effects.now.items.items c.loop-number.effects.items.items (FromBelow (AtNumber s c.args.write) n)) end c.loop-number.invariant)

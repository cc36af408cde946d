use Rattle.std.proofs.Common.{◌≡◌, ℕ, List, length, ap, subst, arith}
use Rattle.worklists.proofs.Growing.{FromBelow}
use Rattle.dep_form.specs.declared.call_site.CallSite.{CallSite}
use Rattle.mod_ref.specs.Gains.{Gains}
use Rattle.mod_ref.proofs.Gaining.{gains_zero, gains_next}
use Rattle.input_tables.specs.Effects.{AtNumber}
use Rattle.input_tables.proofs.outside.add_calls.Goals as goal

pub loop-number-init : goal.loop-number-init
loop-number-init c = gains_zero (AtNumber c.args.scene.now.system.now c.args.scene.now.effects.now c.args.way) c.args.effects.now.items

pub loop-number-preserved : goal.loop-number-preserved
loop-number-preserved c = gains_next (AtNumber c.args.scene.now.system.now c.args.scene.now.effects.now c.args.way) c.loop-number.number c.args.effects.now.items c.loop-number.effects.items c.add_number.new.effects.items c.loop-number.invariant c.in_ok-add_number.ensures

pub returns : goal.returns
returns c =
    let end : c.loop-number.number ≡ length c.args.scene.now.system.now.calls = omega (arith, c.loop-number-test.false, c.loop-number.auto.number-end, ap (λ (ks : List CallSite). length ks) c.items-number-end.ensures) in
    subst (λ (n : ℕ). Gains c.args.effects.now.items c.loop-number.effects.items (FromBelow (AtNumber c.args.scene.now.system.now c.args.scene.now.effects.now c.args.way) n)) end c.loop-number.invariant

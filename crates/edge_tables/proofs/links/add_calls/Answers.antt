use Rattle.std.proofs.Common.{◌≡◌, ℕ, List, length, ap, subst, arith}
use Rattle.worklists.proofs.Growing.{FromBelow}
use Rattle.dep_form.specs.declared.call_site.CallSite.{CallSite}
use Rattle.mod_ref.specs.Gains.{Gains}
use Rattle.edge_tables.specs.Links.{IsCallLink}
use Rattle.mod_ref.proofs.Gaining.{gains_zero, gains_next}
use Rattle.edge_tables.proofs.links.add_calls.Goals as goal

pub loop-number-init : goal.loop-number-init
loop-number-init c = gains_zero (IsCallLink c.args.by_target c.args.scene.now.system.now) c.args.links.now.items

pub loop-number-preserved : goal.loop-number-preserved
loop-number-preserved c = gains_next (IsCallLink c.args.by_target c.args.scene.now.system.now) c.loop-number.number c.args.links.now.items c.loop-number.links.items c.add_call.new.links.items c.loop-number.invariant c.in_ok-add_call.ensures

pub returns : goal.returns
returns c =
    let end : c.loop-number.number ≡ length c.args.scene.now.system.now.calls = omega (arith, c.loop-number-test.false, c.loop-number.auto.number-end, ap (λ (ks : List CallSite). length ks) c.items-number-end.ensures) in
    subst (λ (n : ℕ). Gains c.args.links.now.items c.loop-number.links.items (FromBelow (IsCallLink c.args.by_target c.args.scene.now.system.now) n)) end c.loop-number.invariant

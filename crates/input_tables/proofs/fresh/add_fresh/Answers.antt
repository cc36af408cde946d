use Rattle.std.proofs.Common.{◌≡◌, ℕ, List, length, ap, subst, arith}
use Rattle.worklists.proofs.Growing.{FromBelow}
use Rattle.dep_form.specs.declared.rules.SiteInfo.{SiteInfo}
use Rattle.mod_ref.specs.Gains.{Gains}
use Rattle.mod_ref.proofs.Gaining.{gains_zero, gains_next}
use Rattle.input_tables.specs.Effects.{AtFresh}
use Rattle.input_tables.proofs.fresh.add_fresh.Goals as goal

pub loop-site-init : goal.loop-site-init
loop-site-init c = gains_zero (AtFresh c.args.scene.now.system.now c.args.scene.now.effects.now) c.args.effects.now.items

pub loop-site-preserved : goal.loop-site-preserved
loop-site-preserved c = gains_next (AtFresh c.args.scene.now.system.now c.args.scene.now.effects.now) c.loop-site.site c.args.effects.now.items c.loop-site.effects.items c.add_number.new.effects.items c.loop-site.invariant c.in_ok-add_number.ensures

pub returns : goal.returns
returns c =
    let end : c.loop-site.site ≡ length c.args.scene.now.system.now.sites = omega (arith, c.loop-site-test.false, c.loop-site.auto.site-end, ap (λ (ks : List SiteInfo). length ks) c.items-site-end.ensures) in
    subst (λ (n : ℕ). Gains c.args.effects.now.items c.loop-site.effects.items (FromBelow (AtFresh c.args.scene.now.system.now c.args.scene.now.effects.now) n)) end c.loop-site.invariant

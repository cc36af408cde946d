use Rattle.std.proofs.Common.{◌≡◌, ℕ, List, length, ap, subst, arith}
use Rattle.worklists.proofs.Growing.{FromBelow}
use Rattle.dep_form.specs.declared.rules.SiteInfo.{SiteInfo}
use Rattle.mod_ref.specs.Gains.{Gains}
use Rattle.mod_ref.specs.Direct.{AtIndex}
use Rattle.mod_ref.proofs.Gaining.{gains_zero, gains_next}
use Rattle.mod_ref.proofs.fresh.add_sites.Goals as goal

pub loop-site-init : goal.loop-site-init
loop-site-init c = gains_zero (AtIndex c.args.system.now c.args.places.now) c.args.effects.now.items.items

pub loop-site-preserved : goal.loop-site-preserved
loop-site-preserved c = gains_next (AtIndex c.args.system.now c.args.places.now) c.loop-site.site c.args.effects.now.items.items c.loop-site.effects.items.items c.add_index.new.effects.items.items c.loop-site.invariant c.in_ok-add_index.ensures

pub returns : goal.returns
returns c =
    let s = c.args.system.now in
    let end : c.loop-site.site ≡ length s.sites = omega (arith, c.loop-site-test.false, c.loop-site.auto.site-end, ap (λ (ks : List SiteInfo). length ks) c.items-site-end.ensures) in
    subst (λ (n : ℕ). Gains c.args.effects.now.items.items c.loop-site.effects.items.items (FromBelow (AtIndex s c.args.places.now) n)) end c.loop-site.invariant

use Rattle.std.proofs.Common.{◌≡◌, List, Contains, [], refl, sym, subst, arith}
use Rattle.slicer_ids.specs.declared.ids.SiteId.{SiteId}
use Rattle.worklists.specs.Growth.{Grows, FromOne}
use Rattle.worklists.proofs.Growing.{Grows-none, Grows-more, of_whole}
use Rattle.explainers.proofs.sites.copy.Goals as goal

abbrev Same : SiteId → SiteId → Type 0
Same s h = h ≡ s

pub loop-site-init : goal.loop-site-init
loop-site-init c = subst (λ (xs : List SiteId). Grows [] xs (FromOne Same [])) (sym c.new-all.ensures.items) (Grows-none [] (FromOne Same []) (λ p f. absurd (omega (arith, f.1.1))))

pub loop-site-preserved : goal.loop-site-preserved
loop-site-preserved c = Grows-more Same c.args.sites.now c.loop-site.site-index _ [] c.loop-site.all.items c.add.new.items.items c.loop-site-test.true c.loop-site.invariant c.in_ok-add.ensures.grown

pub returns : goal.returns
returns c = λ h.
    let both = of_whole Same c.args.sites.now c.loop-site.site-index [] c.loop-site.all.items refl c.loop-site-test.false c.loop-site.invariant h in
    (λ k. let f = both.0 k in subst (λ s. Contains c.args.sites.now s) (sym f.2) f.1, λ k. both.1 (h, k, refl))

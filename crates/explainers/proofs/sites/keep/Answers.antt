use Rattle.std.proofs.Common.{List, [], refl, sym, subst, arith}
use Rattle.slicer_ids.specs.declared.ids.SiteId.{SiteId}
use Rattle.worklists.specs.Growth.{Grows, FromOne}
use Rattle.worklists.proofs.Growing.{Grows-none, Grows-more, of_whole}
use Rattle.explainers.specs.Bringing.{IsOneIn}
use Rattle.explainers.proofs.sites.keep.Goals as goal

pub loop-site-init : goal.loop-site-init
loop-site-init c =
    let R = IsOneIn c.args.others.now in
    subst (λ (xs : List SiteId). Grows [] xs (FromOne R [])) (sym c.new-kept.ensures.items) (Grows-none [] (FromOne R []) (λ p f. absurd (omega (arith, f.1.1))))

pub loop-site-preserved : goal.loop-site-preserved
loop-site-preserved c = Grows-more (IsOneIn c.args.others.now) c.args.sites.now c.loop-site.site-index _ [] c.loop-site.kept.items c.keep_one.new.kept.items c.loop-site-test.true c.loop-site.invariant c.in_ok-keep_one.ensures

pub returns : goal.returns
returns c = λ h. of_whole (IsOneIn c.args.others.now) c.args.sites.now c.loop-site.site-index [] c.loop-site.kept.items refl c.loop-site-test.false c.loop-site.invariant h

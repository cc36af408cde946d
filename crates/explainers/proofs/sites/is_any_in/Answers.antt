use Rattle.std.proofs.Common.{List, Contains, sym, subst}
use Rattle.std.proofs.lemmas.List.{take_all}
use Rattle.slicer_ids.specs.declared.ids.SiteId.{SiteId}
use Rattle.explainers.proofs.Bringings.{none_more, failed}
use Rattle.explainers.proofs.sites.is_any_in.Goals as goal

pub loop-site-preserved : goal.loop-site-preserved
loop-site-preserved c =
    let d : SiteId = record { 0 = 0 } in
    none_more c.args.objects.now c.args.sites.now c.loop-site.site-index d c.loop-site-test.true (λ k. failed c.has_site.result c.if-has_site.false (c.has_site.ensures.1 k)) c.loop-site.invariant

pub returns : goal.returns
returns c = (λ t. absurd (cc t), λ k. absurd (c.loop-site.invariant k.0 k.1 (subst (λ (xs : List SiteId). Contains xs k.0) (sym (take_all c.loop-site.site-index c.args.sites.now c.loop-site-test.false)) k.2)))

use Rattle.std.proofs.Common.{take, Contains}
use Rattle.slicer_ids.specs.declared.ids.SiteId.{SiteId}
use Rattle.explainers.proofs.sites.is_any_in.Given as goal

abbrev pub invariant-loop-site : goal.invariant-loop-site
invariant-loop-site l = (h : SiteId) → Contains l.objects h → Contains (take l.site-index l.sites) h → ⊥

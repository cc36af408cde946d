use Rattle.std.proofs.Common.{◌≡◌, [], take}
use Rattle.slicer_ids.specs.declared.ids.SiteId.{SiteId}
use Rattle.worklists.specs.Growth.{Grows, FromOne}
use Rattle.explainers.proofs.sites.copy.Given as goal

abbrev pub invariant-loop-site : goal.invariant-loop-site
invariant-loop-site l = Grows [] l.all.items (FromOne (λ (s : SiteId) h. h ≡ s) (take l.site-index l.sites))

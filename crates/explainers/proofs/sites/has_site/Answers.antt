use Rattle.std.proofs.lemmas.Cmp.{tied_itself}
use Rattle.std.proofs.lemmas.Option.{slice_get-get_or}
use Rattle.std.proofs.Common.{ap, Some, ◌∙◌}
use Rattle.slicer_ids.specs.declared.ids.SiteId.{SiteId}
use Rattle.dep_form.proofs.Searching.{nowhere}
use Rattle.explainers.proofs.SiteOrder.{site_cmp, sites_total, sites_rise}
use Rattle.explainers.proofs.sites.has_site.Goals as goal

pub returns-in-Err : goal.returns-in-Err
returns-in-Err c = (
  λ t. absurd (cc t),
  λ k. absurd (nowhere site_cmp sites_total (λ h. h) c.args.sites.now c.args.site c.in-Err.field-0 (sites_rise c.args.sites.now c.requires) c.in-Err.ensures.position k.0 c.args.site
      (slice_get-get_or c.args.sites.now k.0 c.args.site k.1 ∙ ap (λ (h : SiteId). Some h) k.2) (tied_itself sites_total c.args.site)),
)

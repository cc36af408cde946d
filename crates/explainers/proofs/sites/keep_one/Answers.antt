use Rattle.std.proofs.Common.{◌≡◌}
use Rattle.std.proofs.lemmas.Result.{on_ok_weaker}
use Rattle.slicer_ids.specs.declared.ids.SiteId.{SiteId}
use Rattle.worklists.proofs.Growing.{Grows-same}
use Rattle.explainers.specs.Bringing.{IsOneIn}
use Rattle.explainers.proofs.sites.keep_one.Goals as goal

pub returns-then-holds : goal.returns-then-holds
returns-then-holds c =
    on_ok_weaker c.add.result (Grows-same c.args.kept.now.items c.add.new.items.items (λ (h : SiteId). h ≡ c.args.site) (IsOneIn c.args.others.now c.args.site) (λ h e. (c.has_site-holds.ensures.0 c.if-holds.true, e)) (λ h k. k.1)) c.add.ensures.grown

use Rattle.std.proofs.Common.{List, subst}
use Rattle.std.specs.Prelude.{◌↔◌, Contains}
use Rattle.slicer_ids.specs.declared.ids.SiteId.{SiteId}
use Rattle.worklists.specs.Growth.{FromOne}
use Rattle.explainers.specs.Bringing.{IsOneIn}
use Rattle.explainers.proofs.Bringings.{shared_are}
use Rattle.explainers.proofs.sites.shared.Goals as goal

pub returns : goal.returns
returns c =
    let others = c.in_ok-others.others.items in
    let kept = c.in_ok-kept.kept.items in
    let a = c.args.a.now in
    let from_kept : (h : SiteId) → Contains kept h ↔ FromOne (IsOneIn others) a h = subst (λ (xs : List SiteId). (h : SiteId) → Contains kept h ↔ FromOne (IsOneIn xs) a h) c.deref.ensures.value c.in_ok-kept.ensures in
    shared_are a c.args.b.now others kept c.in_ok-found.found.items
    (λ h. (λ k. (c.in_ok-copy.ensures h).0 ((c.in_ok-others.ensures.members h).0 k), λ k. (c.in_ok-others.ensures.members h).1 ((c.in_ok-copy.ensures h).1 k)))
    from_kept c.in_ok-found.ensures.order c.in_ok-found.ensures.members

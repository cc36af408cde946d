use Rattle.std.proofs.Common.{◌<◌, ℕ}
use Rattle.points_to.specs.Sizes.{counts}
use Rattle.dep_form.specs.Within.{IfPlace}
use Rattle.dep_form.specs.declared.rules.SiteInfo.{SiteInfo}
use Rattle.std.proofs.Common.{get_or}
use Rattle.points_to.proofs.checked.are_sites.Given as goal

abbrev pub invariant-loop-info : goal.invariant-loop-info
invariant-loop-info l = (k : ℕ) (d : SiteInfo) → k < l.info-index → (λ (i : SiteInfo). IfPlace (counts l.n) i.place) (get_or l.sites k d)

use Rattle.std.proofs.Common.{◌<◌, ℕ, get_or}
use Rattle.slicer_ids.specs.declared.ids.SiteId.{SiteId}
use Rattle.dep_form.specs.WithinFacts.{IsOfSites}
use Rattle.checked_facts.proofs.lists.are_of_sites.Given as goal

abbrev pub invariant-loop-h : goal.invariant-loop-h
invariant-loop-h l = (k : ℕ) (d : SiteId) → k < l.h-index → IsOfSites l.n.sites (get_or l.sites k d)

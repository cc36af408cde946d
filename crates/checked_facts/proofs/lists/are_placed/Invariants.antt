use Rattle.std.proofs.Common.{◌<◌, ℕ, get_or}
use Rattle.dep_form.specs.declared.texts.SiteName.{SiteName}
use Rattle.checked_facts.specs.Parts.{IsPlaced}
use Rattle.checked_facts.proofs.lists.are_placed.Given as goal

abbrev pub invariant-loop-site : goal.invariant-loop-site
invariant-loop-site l = (k : ℕ) (d : SiteName) → k < l.site-index → IsPlaced l.n.methods (get_or l.sites k d)

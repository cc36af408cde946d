use Rattle.std.proofs.Common.{◌<◌, ℕ, get_or}
use Rattle.slicer_ids.specs.declared.ids.Statement.{Statement}
use Rattle.slicer_ids.specs.declared.ids.SiteId.{SiteId}
use Rattle.checked_facts.specs.Parts.{IsValueWithin}
use Rattle.std.specs.Prelude.{List}
use Rattle.checked_facts.proofs.lists.are_values.Given as goal

abbrev pub invariant-loop-value : goal.invariant-loop-value
invariant-loop-value l = (k : ℕ) (d : (Statement × List SiteId)) → k < l.value-index → IsValueWithin l.n.methods l.n.sites (get_or l.values k d)

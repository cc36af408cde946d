use Rattle.std.proofs.Common.{◌<◌, ℕ, get_or}
use Rattle.slicer_ids.specs.declared.ids.Statement.{Statement}
use Rattle.dep_form.specs.declared.access.Access.{Access}
use Rattle.checked_facts.specs.Parts.{IsAccessWithin}
use Rattle.checked_facts.proofs.lists.are_accesses.Given as goal

abbrev pub invariant-loop-access : goal.invariant-loop-access
invariant-loop-access l = (k : ℕ) (d : (Statement × Access)) → k < l.access-index → IsAccessWithin l.n.nodes l.n.methods l.n.sites (get_or l.accesses k d)

use Rattle.std.proofs.Common.{◌<◌, ℕ, get_or}
use Rattle.slicer_ids.specs.declared.ids.ClassId.{ClassId}
use Rattle.slicer_ids.specs.declared.ids.Statement.{Statement}
use Rattle.checked_facts.specs.Parts.{IsLineWithin}
use Rattle.std.specs.Prelude.{List}
use Rattle.checked_facts.proofs.lists.are_lines.Given as goal

abbrev pub invariant-loop-line : goal.invariant-loop-line
invariant-loop-line l = (k : ℕ) (d : (ClassId × ℕ × List Statement)) → k < l.line-index → IsLineWithin l.n.classes l.n.methods (get_or l.lines k d)

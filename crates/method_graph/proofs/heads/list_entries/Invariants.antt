use Rattle.std.proofs.Common.{[]}
use Rattle.worklists.specs.Growth.{Grows}
use Rattle.worklists.proofs.Growing.{FromBelow}
use Rattle.dep_form.specs.declared.node.Node.TheVariants.{HeapIn}
use Rattle.method_graph.proofs.Standing.{HeadAt, in_one}
use Rattle.method_graph.proofs.heads.list_entries.Given as goal

abbrev pub invariant-loop-k : goal.invariant-loop-k
invariant-loop-k l = Grows [] l.entries.items (FromBelow (HeadAt (λ x. HeapIn x) in_one l.first l.nodes) l.k)

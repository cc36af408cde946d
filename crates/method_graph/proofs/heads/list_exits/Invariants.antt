use Rattle.std.proofs.Common.{[]}
use Rattle.worklists.specs.Growth.{Grows}
use Rattle.worklists.proofs.Growing.{FromBelow}
use Rattle.dep_form.specs.declared.node.Node.TheVariants.{HeapOut}
use Rattle.method_graph.proofs.Standing.{HeadAt, out_one}
use Rattle.method_graph.proofs.heads.list_exits.Given as goal

abbrev pub invariant-loop-k : goal.invariant-loop-k
invariant-loop-k l = Grows [] l.exits.items (FromBelow (HeadAt (λ x. HeapOut x) out_one l.first l.nodes) l.k)

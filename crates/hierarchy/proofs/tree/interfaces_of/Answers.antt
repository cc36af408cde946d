use Rattle.hierarchy.specs.declared.parents.Above.TheVariants.{Interfaces}
use Rattle.hierarchy.proofs.Rows.{edges_graph, interface_order}
use Rattle.hierarchy.proofs.tree.interfaces_of.Goals as goal

pub with_rows-requires-clause-graph : goal.with_rows-requires-clause-graph
with_rows-requires-clause-graph c = edges_graph Interfaces c.args.classes.now c.in_ok-edges.edges.items c.in_ok-edges.ensures

pub with_rows-requires-clause-order : goal.with_rows-requires-clause-order
with_rows-requires-clause-order c = interface_order c.args.classes.now c.in_ok-edges.edges.items c.args.rows.now c.args.order.now c.requires.ordered.order c.in_ok-edges.ensures c.requires.edges c.requires.order

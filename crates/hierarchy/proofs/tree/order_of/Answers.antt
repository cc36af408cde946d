use Rattle.hierarchy.specs.declared.parents.Above.TheVariants.{Parents}
use Rattle.hierarchy.proofs.Rows.{edges_graph}
use Rattle.hierarchy.proofs.tree.order_of.Goals as goal

pub find_order-requires-clause-graph : goal.find_order-requires-clause-graph
find_order-requires-clause-graph c = edges_graph Parents c.args.classes.now c.args.rows.now c.requires.edges

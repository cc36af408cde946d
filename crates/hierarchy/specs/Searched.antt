-- What is kept for a search.
use Rattle.std.specs.Prelude.{List, ℕ}
use Rattle.digraph.specs.Graphs.{IsGraph}
use Rattle.digraph.specs.Orders.{IsOrder}
use Rattle.digraph.specs.Rows.{AreRows}
use Rattle.hierarchy.specs.declared.graph.Graph.{Graph}

-- edges between nodes that lead back in an order, and the rows of what is reached
pub record IsSearched (graph : Graph) (order : List ℕ) : Type 0 where
  pub edges : IsGraph graph.edges.items
  pub back : IsOrder graph.edges.items order
  pub rows : AreRows graph.edges.items graph.rows.items

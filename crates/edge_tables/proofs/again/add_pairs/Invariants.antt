use Rattle.worklists.proofs.Growing.{FromBelow}
use Rattle.mod_ref.specs.Gains.{Gains}
use Rattle.edge_tables.specs.Again.{IsPairEdge}
use Rattle.edge_tables.proofs.again.add_pairs.Given as goal

abbrev pub invariant-loop-j : goal.invariant-loop-j
invariant-loop-j l = Gains l.initial.edges.items l.edges.items (FromBelow (IsPairEdge l.row.first l.row.nodes.now l.k l.n) l.j)

use Rattle.node_tables.specs.Rows.{AtBody}
use Rattle.node_tables.proofs.NodeCounts.{nodes_none}
use Rattle.node_tables.proofs.counts.count_statements.Goals as goal

pub returns-in-None : goal.returns-in-None
returns-in-None c = nodes_none (AtBody c.args.scene.now c.args.m) (λ n h. c.in-None.ensures h.0 h.1 h.2)

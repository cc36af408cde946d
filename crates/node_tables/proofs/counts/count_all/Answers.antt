use Rattle.node_tables.proofs.NodeCounts.{all_totals}
use Rattle.node_tables.proofs.counts.count_all.Goals as goal

pub returns : goal.returns
returns c = all_totals c.args.scene.now c.in_ok-methods.methods.nodes c.in_ok-methods.methods.words c.in_ok-root.root c.in_ok-nodes.nodes c.in_ok-nodes.ensures c.in_ok-methods.ensures c.in_ok-root.ensures

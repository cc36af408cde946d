use Rattle.node_tables.proofs.NodeCounts.{totals_more}
use Rattle.node_tables.proofs.counts.add_method.Goals as goal

pub returns : goal.returns
returns c =
    let k = c.in_ok-count.count in
    totals_more c.args.scene.now c.args.m c.args.totals.nodes c.args.totals.words k.nodes k.formals k.exits c.in_ok-more.more c.in_ok-nodes.nodes c.in_ok-words.words c.in_ok-count.ensures c.in_ok-more.ensures c.in_ok-nodes.ensures c.in_ok-words.ensures c.requires.totals

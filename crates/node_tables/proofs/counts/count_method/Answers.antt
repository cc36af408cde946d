use Rattle.node_tables.proofs.NodeCounts.{method_counted}
use Rattle.node_tables.proofs.counts.count_method.Goals as goal

pub returns : goal.returns
returns c = method_counted c.args.scene.now c.args.m c.args.answers c.in_ok-formals.formals c.in_ok-inner.inner c.in_ok-exits.exits c.in_ok-before.before c.in_ok-nodes.nodes c.in_ok-formals.ensures c.in_ok-inner.ensures c.in_ok-exits.ensures c.in_ok-before.ensures c.in_ok-nodes.ensures

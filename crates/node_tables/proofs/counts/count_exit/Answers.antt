use Rattle.std.proofs.Common.{◌≡◌, length, arith}
use Rattle.node_tables.specs.Statements.{AtExit}
use Rattle.node_tables.proofs.NodeCounts.{nodes_of}
use Rattle.node_tables.proofs.counts.count_exit.Goals as goal

pub returns : goal.returns
returns c =
    let x = c.args.scene.now in
    nodes_of (AtExit x.system.now x.effects.now c.args.m c.args.answers) c.new-nodes.result.items c.add_exit.new.nodes.items c.len.result c.new-nodes.ensures.items (omega (arith, c.len.ensures, c.add_exit.new.nodes.ok.0)) c.in_ok-add_exit.ensures

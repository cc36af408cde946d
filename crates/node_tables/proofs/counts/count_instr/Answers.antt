use Rattle.std.proofs.Common.{◌≡◌, length, arith}
use Rattle.node_tables.specs.Statements.{AtInstr}
use Rattle.node_tables.proofs.NodeCounts.{nodes_of}
use Rattle.node_tables.proofs.counts.count_instr.Goals as goal

pub returns : goal.returns
returns c =
    let x = c.args.scene.now in
    nodes_of (AtInstr x.system.now x.effects.now c.args.body.now c.args.instr.now) c.new-nodes.result.items c.add_instr.new.nodes.items c.len.result c.new-nodes.ensures.items (omega (arith, c.len.ensures, c.add_instr.new.nodes.ok.0)) c.in_ok-add_instr.ensures

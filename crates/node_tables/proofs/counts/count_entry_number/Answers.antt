use Rattle.std.proofs.Common.{◌≡◌, length, arith}
use Rattle.node_tables.specs.Rows.{AtEntryNumber}
use Rattle.node_tables.proofs.NodeCounts.{nodes_of}
use Rattle.node_tables.proofs.counts.count_entry_number.Goals as goal

pub returns : goal.returns
returns c =
    nodes_of (AtEntryNumber c.args.scene.now c.args.k) c.new-nodes.result.items c.add_entry_number.new.nodes.items c.len.result c.new-nodes.ensures.items (omega (arith, c.len.ensures, c.add_entry_number.new.nodes.ok.0)) c.in_ok-add_entry_number.ensures

use Rattle.std.proofs.Common.{◌≡◌, length, arith}
use Rattle.node_tables.proofs.MethodRows.{root_first, root_more, root_listed}
use Rattle.node_tables.proofs.tables.root_row.Goals as goal

pub loop-k-init : goal.loop-k-init
loop-k-init c = root_first c.args.scene.now c.new-nodes.result.items

pub loop-k-preserved : goal.loop-k-preserved
loop-k-preserved c = root_more c.args.scene.now c.loop-k.k c.new-nodes.result.items c.loop-k.nodes.items c.add_entry_number.new.nodes.items c.loop-k.invariant c.in_ok-add_entry_number.ensures

pub returns : goal.returns
returns c =
    let x = c.args.scene.now in
    let end : length x.entries.now ≡ c.loop-k.k = omega (arith, c.loop-k-test.false, c.loop-k.auto.k-end) in
    root_listed x c.new-nodes.result.items c.loop-k.nodes.items c.loop-k.k c.new-nodes.ensures.items end c.loop-k.invariant

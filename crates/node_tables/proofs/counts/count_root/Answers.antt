use Rattle.std.proofs.Common.{◌≡◌, length, arith}
use Rattle.node_tables.proofs.NodeCounts.{root_all, root_counted, root_none}
use Rattle.node_tables.proofs.counts.count_root.Goals as goal

pub loop-k-init : goal.loop-k-init
loop-k-init c = root_none c.args.scene.now

pub loop-k-preserved : goal.loop-k-preserved
loop-k-preserved c = root_counted c.args.scene.now c.loop-k.k c.loop-k.sum c.in_ok-count.count c.in_ok-sum.sum c.in_ok-sum.ensures c.loop-k.invariant c.in_ok-count.ensures

pub returns : goal.returns
returns c =
    let x = c.args.scene.now in
    let end : length x.entries.now ≡ c.loop-k.k = omega (arith, c.loop-k-test.false, c.loop-k.auto.k-end) in
    root_all x c.loop-k.k c.loop-k.sum end c.loop-k.invariant

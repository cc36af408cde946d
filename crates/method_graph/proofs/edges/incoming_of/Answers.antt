use Rattle.std.proofs.Common.{◌≡◌, ℕ, subst, arith}
use Rattle.method_graph.specs.Edges.{AreIncoming}
use Rattle.method_graph.proofs.Collected.{incoming_more}
use Rattle.method_graph.proofs.edges.incoming_of.Goals as goal

pub loop-k-preserved : goal.loop-k-preserved
loop-k-preserved c = rw c.in_ok-push_list.ensures (incoming_more c.args.edges.now c.ending_in.result.now c.args.first c.loop-k.k c.loop-k.incoming.items c.in_ok-list.list c.loop-k.invariant c.in_ok-list.ensures c.ending_in.ensures.order c.ending_in.ensures.members)

pub returns : goal.returns
returns c =
    let end : c.loop-k.k ≡ c.args.nodes = omega (arith, c.loop-k-test.false, c.loop-k.auto.k-end) in
    subst (λ (n : ℕ). AreIncoming c.args.edges.now c.args.first n c.loop-k.incoming.items) end c.loop-k.invariant

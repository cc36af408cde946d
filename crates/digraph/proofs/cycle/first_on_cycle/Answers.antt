use Rattle.std.proofs.Common.{arith, below_more}
use Rattle.std.proofs.lemmas.Bool.{iff_false}
use Rattle.digraph.specs.Orders.{IsOnCycle}
use Rattle.digraph.proofs.cycle.first_on_cycle.Goals as goal

pub loop-node-preserved : goal.loop-node-preserved
loop-node-preserved c = below_more (λ m. IsOnCycle c.args.graph.now m → ⊥) c.loop-node.node c.loop-node.invariant (iff_false c.in_ok-is_on_cycle.ensures c.if-branch.false)

pub returns : goal.returns
returns c = λ n lt h. c.loop-node.invariant n (omega (arith, lt)) h

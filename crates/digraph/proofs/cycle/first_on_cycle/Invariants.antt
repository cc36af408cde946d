use Rattle.std.proofs.Common.{ℕ, ◌<◌}
use Rattle.digraph.specs.Orders.{IsOnCycle}
use Rattle.digraph.proofs.cycle.first_on_cycle.Given as goal

abbrev pub invariant-loop-node : goal.invariant-loop-node
invariant-loop-node l = (m : ℕ) → m < l.node → IsOnCycle l.graph m → ⊥

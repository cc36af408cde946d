use Rattle.std.proofs.Common.{◌≡◌, length, take}
use Rattle.digraph.specs.Rows.{HaveRows}
use Rattle.digraph.proofs.rows.reach_rows.Given as goal

abbrev pub invariant-loop-node : goal.invariant-loop-node
invariant-loop-node l = record {
  len : length l.rows.items ≡ length l.graph;
  have : HaveRows l.graph l.rows.items l.words (take l.node-index l.order);
}

use Rattle.std.proofs.Common.{arith}
use Rattle.std.proofs.lemmas.Bool.{false≢true}
use Rattle.digraph.proofs.Marks.{node_of_edge}
use Rattle.digraph.proofs.cycle.is_next.Goals as goal

pub returns : goal.returns
returns c = (λ e. absurd (false≢true e), λ h. absurd (c.loop-a.invariant h.0 (omega (arith, node_of_edge c.args.graph.now h.0 c.args.node h.2)) h.1 h.2))

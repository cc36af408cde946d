use Rattle.std.proofs.Common.{take}
use Rattle.worklists.specs.Growth.{Grows, FromOne}
use Rattle.widening.specs.Marks.{OverEdge}
use Rattle.widening.proofs.passing.pass_edges.Given as goal

abbrev pub invariant-loop-edge : goal.invariant-loop-edge
invariant-loop-edge l = Grows l.initial.into.items l.into.items (FromOne (OverEdge l.f l.found.items) (take l.edge-index l.edges))

use Rattle.std.proofs.Common.{take}
use Rattle.worklists.specs.Growth.{Grows, FromOne}
use Rattle.plain_slice.specs.Edges.{IsPlainOf}
use Rattle.plain_slice.proofs.edges.full_edges.Given as goal

abbrev pub invariant-loop-edge : goal.invariant-loop-edge
invariant-loop-edge l = Grows l.initial.plain.items l.plain.items (FromOne IsPlainOf (take l.edge-index l.edges))

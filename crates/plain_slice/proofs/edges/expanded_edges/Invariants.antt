use Rattle.std.proofs.Common.{◌≡◌, take}
use Rattle.dep_form.specs.declared.node.Edge.{Edge}
use Rattle.worklists.specs.Growth.{Grows, FromOne}
use Rattle.plain_slice.specs.Edges.{Counts}
use Rattle.plain_slice.proofs.edges.expanded_edges.Given as goal

abbrev pub invariant-loop-edge : goal.invariant-loop-edge
invariant-loop-edge l = Grows l.initial.kept.items l.kept.items (FromOne (λ (g e : Edge). Counts l.asked g × (e ≡ g)) (take l.edge-index l.edges))

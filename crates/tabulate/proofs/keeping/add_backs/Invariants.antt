use Rattle.std.proofs.Common.{◌⊎◌, take, Contains}
use Rattle.std.specs.Prelude.{◌↔◌}
use Rattle.slicer_ids.specs.declared.ids.NodeId.{NodeId}
use Rattle.dep_form.specs.declared.node.Label.TheVariants.{Return}
use Rattle.dep_form.specs.Phases.{edge}
use Rattle.dep_form.specs.Summaries.{IsExitAt}
use Rattle.tabulate.specs.declared.method.Back.{Back}
use Rattle.tabulate.proofs.keeping.add_backs.Given as goal

abbrev pub invariant-loop-edge : goal.invariant-loop-edge
invariant-loop-edge l = (b : Back) → Contains l.into.items b ↔ (Contains l.initial.into.items b ⊎ ((e : NodeId) × IsExitAt l.f b.exit e × Contains (take l.edge-index l.edges) (edge e (Return b.call) b.to)))

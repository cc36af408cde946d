use Rattle.std.proofs.Common.{take, Contains}
use Rattle.std.specs.Prelude.{◌↔◌}
use Rattle.slicer_ids.specs.declared.ids.NodeId.{NodeId}
use Rattle.dep_form.specs.declared.node.Label.TheVariants.{Return}
use Rattle.dep_form.specs.Phases.{edge}
use Rattle.dep_form.specs.Summaries.{IsExitAt}
use Rattle.tabulate.specs.Methods.{HasEdge}
use Rattle.tabulate.specs.declared.method.Back.{Back}
use Rattle.tabulate.proofs.keeping.backs_of.Given as goal

abbrev pub invariant-loop-edges : goal.invariant-loop-edges
invariant-loop-edges l = (b : Back) → Contains l.backs.items b ↔ ((e : NodeId) × IsExitAt l.f b.exit e × HasEdge (take l.edges-index l.incoming) (edge e (Return b.call) b.to))

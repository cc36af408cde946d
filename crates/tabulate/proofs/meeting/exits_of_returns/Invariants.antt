use Rattle.std.proofs.Common.{take, Contains}
use Rattle.std.specs.Prelude.{◌↔◌}
use Rattle.slicer_ids.specs.declared.ids.ExitId.{ExitId}
use Rattle.dep_form.specs.declared.node.Edge.{Edge}
use Rattle.tabulate.specs.States.{IsReturnFrom}
use Rattle.tabulate.proofs.meeting.exits_of_returns.Given as goal

abbrev pub invariant-loop-edge : goal.invariant-loop-edge
invariant-loop-edge l = (d : ExitId) → Contains l.into.items d ↔ ((x : Edge) × Contains (take l.edge-index l.edges) x × IsReturnFrom l.f d x)

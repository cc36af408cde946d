use Rattle.std.proofs.Common.{◌⊎◌, take, Contains}
use Rattle.std.specs.Prelude.{◌↔◌}
use Rattle.dep_form.specs.declared.node.Label.TheVariants.{Call}
use Rattle.dep_form.specs.Phases.{edge}
use Rattle.tabulate.specs.declared.method.Argument.{Argument}
use Rattle.tabulate.proofs.keeping.add_arguments.Given as goal

abbrev pub invariant-loop-edge : goal.invariant-loop-edge
invariant-loop-edge l = (a : Argument) → Contains l.into.items a ↔ (Contains l.initial.into.items a ⊎ Contains (take l.edge-index l.edges) (edge a.from (Call a.call) a.formal))

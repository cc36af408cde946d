use Rattle.std.proofs.Common.{take, Contains}
use Rattle.std.specs.Prelude.{◌↔◌}
use Rattle.dep_form.specs.declared.node.Label.TheVariants.{Call}
use Rattle.dep_form.specs.Phases.{edge}
use Rattle.tabulate.specs.Methods.{HasEdge}
use Rattle.tabulate.specs.declared.method.Argument.{Argument}
use Rattle.tabulate.proofs.keeping.arguments_of.Given as goal

abbrev pub invariant-loop-edges : goal.invariant-loop-edges
invariant-loop-edges l = (a : Argument) → Contains l.arguments.items a ↔ HasEdge (take l.edges-index l.incoming) (edge a.from (Call a.call) a.formal)

use Rattle.std.proofs.Common.{◌∙◌, List, Contains, subst}
use Rattle.std.specs.Prelude.{◌↔◌}
use Rattle.std.proofs.lemmas.List.{take_all}
use Rattle.dep_form.specs.declared.node.Edge.{Edge}
use Rattle.dep_form.specs.declared.node.Label.TheVariants.{Call}
use Rattle.dep_form.specs.Phases.{edge}
use Rattle.tabulate.specs.Methods.{HasEdge}
use Rattle.tabulate.proofs.Collecting.{any_default, arguments_all}
use Rattle.tabulate.proofs.keeping.arguments_of.Goals as goal

pub loop-edges-preserved : goal.loop-edges-preserved
loop-edges-preserved c = arguments_all c.loop-edges.arguments.items c.add_arguments.new.into.items c.args.incoming.now c.loop-edges.edges-index c.items.result.now c.items.result.now c.loop-edges-test.true (any_default c.args.incoming.now c.loop-edges.edges-index c.loop-edges-test.true c.items.result.now _ c.items.result.now (c.items.ensures ∙ c.edges-item.is)) c.loop-edges.invariant c.in_ok-add_arguments.ensures

pub returns : goal.returns
returns c = λ a. subst (λ (xs : List (List Edge)). Contains c.loop-edges.arguments.items a ↔ HasEdge xs (edge a.from (Call a.call) a.formal)) (take_all c.loop-edges.edges-index c.args.incoming.now c.loop-edges-test.false) (c.loop-edges.invariant a)

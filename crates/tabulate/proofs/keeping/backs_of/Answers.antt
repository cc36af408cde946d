use Rattle.std.proofs.Common.{◌∙◌, List, Contains, subst}
use Rattle.std.specs.Prelude.{◌↔◌}
use Rattle.std.proofs.lemmas.List.{take_all}
use Rattle.slicer_ids.specs.declared.ids.NodeId.{NodeId}
use Rattle.dep_form.specs.declared.node.Edge.{Edge}
use Rattle.dep_form.specs.declared.node.Label.TheVariants.{Return}
use Rattle.dep_form.specs.Phases.{edge}
use Rattle.dep_form.specs.Summaries.{IsExitAt}
use Rattle.tabulate.specs.Methods.{HasEdge}
use Rattle.tabulate.proofs.Collecting.{any_default, backs_all}
use Rattle.tabulate.proofs.keeping.backs_of.Goals as goal

pub loop-edges-preserved : goal.loop-edges-preserved
loop-edges-preserved c = backs_all c.args.f.now c.loop-edges.backs.items c.add_backs.new.into.items c.args.incoming.now c.loop-edges.edges-index c.items.result.now c.items.result.now c.loop-edges-test.true (any_default c.args.incoming.now c.loop-edges.edges-index c.loop-edges-test.true c.items.result.now _ c.items.result.now (c.items.ensures ∙ c.edges-item.is)) c.loop-edges.invariant c.in_ok-add_backs.ensures

pub returns : goal.returns
returns c = λ b. subst (λ (xs : List (List Edge)). Contains c.loop-edges.backs.items b ↔ ((e : NodeId) × IsExitAt c.args.f.now b.exit e × HasEdge xs (edge e (Return b.call) b.to))) (take_all c.loop-edges.edges-index c.args.incoming.now c.loop-edges-test.false) (c.loop-edges.invariant b)

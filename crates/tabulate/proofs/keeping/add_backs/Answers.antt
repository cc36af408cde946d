use Rattle.std.proofs.Common.{◌⊎◌, List, Contains, subst}
use Rattle.std.specs.Prelude.{◌↔◌}
use Rattle.std.proofs.lemmas.List.{take_all}
use Rattle.slicer_ids.specs.declared.ids.NodeId.{NodeId}
use Rattle.dep_form.specs.declared.node.Edge.{Edge}
use Rattle.dep_form.specs.declared.node.Label.TheVariants.{Thin, Return}
use Rattle.dep_form.specs.Phases.{edge}
use Rattle.dep_form.specs.Summaries.{IsExitAt}
use Rattle.tabulate.proofs.Collecting.{backs_more}
use Rattle.tabulate.proofs.keeping.add_backs.Goals as goal

pub loop-edge-preserved : goal.loop-edge-preserved
loop-edge-preserved c =
    let none : Edge = record { from = record { 0 = 0 }; to = record { 0 = 0 }; label = Thin } in
    backs_more c.args.f.now c.loop-edge.into.items c.add_back.new.into.items c.args.into.now.items c.args.edges.now c.loop-edge.edge-index none c.loop-edge-test.true c.loop-edge.invariant c.in_ok-add_back.ensures

pub returns : goal.returns
returns c = λ b. subst (λ (xs : List Edge). Contains c.loop-edge.into.items b ↔ (Contains c.args.into.now.items b ⊎ ((e : NodeId) × IsExitAt c.args.f.now b.exit e × Contains xs (edge e (Return b.call) b.to)))) (take_all c.loop-edge.edge-index c.args.edges.now c.loop-edge-test.false) (c.loop-edge.invariant b)

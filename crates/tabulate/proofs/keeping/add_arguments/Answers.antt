use Rattle.std.proofs.Common.{◌⊎◌, List, Contains, subst}
use Rattle.std.specs.Prelude.{◌↔◌}
use Rattle.std.proofs.lemmas.List.{take_all}
use Rattle.dep_form.specs.declared.node.Edge.{Edge}
use Rattle.dep_form.specs.declared.node.Label.TheVariants.{Thin, Call}
use Rattle.dep_form.specs.Phases.{edge}
use Rattle.tabulate.proofs.Collecting.{arguments_more}
use Rattle.tabulate.proofs.keeping.add_arguments.Goals as goal

pub loop-edge-preserved : goal.loop-edge-preserved
loop-edge-preserved c =
    let none : Edge = record { from = record { 0 = 0 }; to = record { 0 = 0 }; label = Thin } in
    arguments_more c.loop-edge.into.items c.add_argument.new.into.items c.args.into.now.items c.args.edges.now c.loop-edge.edge-index none c.loop-edge-test.true c.loop-edge.invariant c.in_ok-add_argument.ensures

pub returns : goal.returns
returns c = λ a. subst (λ (xs : List Edge). Contains c.loop-edge.into.items a ↔ (Contains c.args.into.now.items a ⊎ Contains xs (edge a.from (Call a.call) a.formal))) (take_all c.loop-edge.edge-index c.args.edges.now c.loop-edge-test.false) (c.loop-edge.invariant a)

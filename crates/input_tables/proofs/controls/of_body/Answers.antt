use Rattle.std.proofs.Common.{◌≡◌, ◌↔◌, List, AllPairs, Contains, length, sym, ap, subst}
use Rattle.std.specs.Ordering.{nat_cmp}
use Rattle.class_form.specs.declared.body.Point.{Point}
use Rattle.dep_form.specs.Orders.{RiseBy}
use Rattle.dep_form.proofs.Searching.{all_at}
use Rattle.fact_form.specs.FactTables.{StepBefore}
use Rattle.node_tables.specs.Scenes.{IsInOrder}
use Rattle.input_tables.specs.Control.{IsControlOf, IsStepOf}
use Rattle.input_tables.proofs.ControlFlow.{body_control}
use Rattle.input_tables.proofs.Outcomes.{three_ok}
use Rattle.input_tables.proofs.controls.of_body.Goals as goal

pub of_points-requires : goal.of_points-requires
of_points-requires c = subst (RiseBy nat_cmp (λ (t : Point). t.pc)) (sym c.items.ensures) (all_at IsInOrder c.args.bodies.now c.requires.ordered c.args.number c.body_at-body.result.now c.body_at-body.ensures).points

pub returns : goal.returns
returns c =
    let xs = c.items.result.now in
    three_ok c.of_points.result (λ k. k.points ≡ length xs) (λ k. AllPairs StepBefore k.flow.items) (λ k. (q r : _) → Contains k.flow.items (q, r) ↔ IsStepOf xs q r) (λ k. IsControlOf c.args.bodies.now c.args.m k.points k.flow.items)
    (λ k count order members. body_control c.args.bodies.now c.args.m c.requires.order c.args.number c.body_at-body.result.now c.body_at-body.ensures c.requires.number (all_at IsInOrder c.args.bodies.now c.requires.ordered c.args.number c.body_at-body.result.now c.body_at-body.ensures).points xs c.items.ensures k.points k.flow.items count order members)
    c.of_points.ensures.points c.of_points.ensures.order c.of_points.ensures.members

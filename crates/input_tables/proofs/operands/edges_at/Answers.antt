use Rattle.std.proofs.Common.{◌↔◌, Contains, sym, subst}
use Rattle.std.specs.Ordering.{nat_cmp}
use Rattle.std.proofs.lemmas.Result.{IfOk-weaker}
use Rattle.class_form.specs.declared.body.Point.{Point}
use Rattle.dep_form.specs.declared.node.Edge.{Edge}
use Rattle.dep_form.specs.Orders.{RiseBy}
use Rattle.dep_form.proofs.Searching.{all_at}
use Rattle.node_tables.specs.Scenes.{IsInOrder}
use Rattle.worklists.specs.Growth.{FromOne}
use Rattle.input_tables.specs.Edges.{AreOperandEdgesOf, HasReach, IsPointEdge}
use Rattle.input_tables.proofs.OperandEdges.{body_edges}
use Rattle.input_tables.proofs.operands.edges_at.Goals as goal

pub edges_in-requires-clause-points : goal.edges_in-requires-clause-points
edges_in-requires-clause-points c = subst (RiseBy nat_cmp (λ (t : Point). t.pc)) (sym c.items.ensures) (all_at IsInOrder c.args.bodies.now c.requires.ordered c.args.number c.body_at-body.result.now c.body_at-body.ensures).points

pub edges_in-requires-clause-reach : goal.edges_in-requires-clause-reach
edges_in-requires-clause-reach c = all_at HasReach c.args.bodies.now c.requires.reaches c.args.number c.body_at-body.result.now c.body_at-body.ensures

pub returns-clause-members : goal.returns-clause-members
returns-clause-members c =
    let body = c.body_at-body.result.now in
    let points = c.items.result.now in
    IfOk-weaker c.edges_in.result (λ v. (x : Edge) → Contains v.items x ↔ FromOne (IsPointEdge points c.args.first c.args.row.now body.shape) points x) (λ v. AreOperandEdgesOf c.args.bodies.now c.args.m c.args.first c.args.row.now v.items)
    (λ v members. body_edges c.args.bodies.now c.args.m c.args.first c.args.row.now c.args.number body c.body_at-body.ensures c.requires.number points c.items.ensures v.items members) c.edges_in.ensures.members

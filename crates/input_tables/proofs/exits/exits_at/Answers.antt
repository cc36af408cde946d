use Rattle.std.proofs.Common.{◌↔◌, Contains}
use Rattle.std.proofs.lemmas.Result.{IfOk-weaker}
use Rattle.dep_form.specs.declared.node.Edge.{Edge}
use Rattle.worklists.specs.Growth.{FromOne}
use Rattle.input_tables.specs.Exits.{AreExitEdgesOf, IsPointExit}
use Rattle.input_tables.proofs.ExitEdges.{body_exits}
use Rattle.input_tables.proofs.exits.exits_at.Goals as goal

pub returns-clause-members : goal.returns-clause-members
returns-clause-members c =
    let points = c.items.result.now in
    IfOk-weaker c.exits_of.result (λ v. (x : Edge) → Contains v.items x ↔ FromOne (IsPointExit c.args.handlers.now c.args.first c.args.row.now) points x) (λ v. AreExitEdgesOf c.args.bodies.now c.args.m c.args.handlers.now c.args.first c.args.row.now v.items)
    (λ v members. body_exits c.args.bodies.now c.args.m c.args.handlers.now c.args.first c.args.row.now c.args.number c.body_at-body.result.now c.body_at-body.ensures c.requires.number points c.items.ensures v.items members) c.exits_of.ensures.members

use Rattle.worklists.specs.Growth.{FromOne}
use Rattle.mod_ref.proofs.Gaining.{gained}
use Rattle.input_tables.specs.Exits.{IsPointExit}
use Rattle.input_tables.proofs.exits.exits_of.Goals as goal

pub returns-clause-members : goal.returns-clause-members
returns-clause-members c = λ x.
    let is = gained c.new-edges.result.items c.add_points.new.edges.items (FromOne (IsPointExit c.args.handlers.now c.args.first c.args.row.now) c.args.points.now) c.new-edges.ensures.items c.in_ok-add_points.ensures x in
    let same = c.in_order.ensures.members x in
    (λ h. is.0 (same.0 h), λ h. same.1 (is.1 h))

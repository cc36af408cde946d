use Rattle.mod_ref.proofs.Touched.{both_told}
use Rattle.input_tables.specs.Exits.{IsPointExit, IsReturnEdge, IsThrownEdge}
use Rattle.input_tables.proofs.exits.add_point.Goals as goal

pub returns : goal.returns
returns c = both_told c.add_thrown.result c.args.edges.now.items c.add_return.new.edges.items c.add_thrown.new.edges.items (IsReturnEdge c.args.first c.args.row.now c.args.point.now) (IsThrownEdge c.args.handlers.now c.args.first c.args.row.now c.args.point.now) (IsPointExit c.args.handlers.now c.args.first c.args.row.now c.args.point.now)
    (λ x. (λ h. h, λ h. h)) c.in_ok-add_return.ensures c.add_thrown.ensures

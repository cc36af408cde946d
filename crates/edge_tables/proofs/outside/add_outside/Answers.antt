use Rattle.std.proofs.lemmas.Result.{on_ok_weaker}
use Rattle.worklists.specs.Growth.{FromOne}
use Rattle.mod_ref.proofs.Touched.{told}
use Rattle.edge_tables.specs.Outside.{IsOutsideEdge, OutsideFlow}
use Rattle.edge_tables.specs.Rows.{IsLocalEdge}
use Rattle.edge_tables.proofs.OutsideFlows.{outside_to, outside_from, rule_there}
use Rattle.edge_tables.proofs.outside.add_outside.Goals as goal

pub returns : goal.returns
returns c =
    let first = c.args.row.now.first in
    let nodes = c.args.row.now.nodes.now in
    let s = c.args.scene.now.system.now in
    told c.add_nodes.result c.args.edges.now.items c.add_nodes.new.edges.items (FromOne (IsOutsideEdge first nodes s c.args.m) nodes) (IsLocalEdge first nodes (OutsideFlow s c.args.m))
    (λ x. (outside_to first nodes s c.args.m x, outside_from first nodes s c.args.m x (rule_there s c.args.m))) c.add_nodes.ensures

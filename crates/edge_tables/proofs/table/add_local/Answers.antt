use Rattle.std.proofs.Common.{◌≡◌, ◌⊎◌, ◌↔◌, inl, inr}
use Rattle.std.proofs.lemmas.Result.{on_ok_weaker}
use Rattle.dep_form.specs.declared.node.Label.{Label}
use Rattle.dep_form.specs.declared.node.Node.{Node}
use Rattle.mod_ref.proofs.Gaining.{gains_both}
use Rattle.mod_ref.proofs.Touched.{both_told}
use Rattle.edge_tables.specs.Again.{AgainFlow}
use Rattle.edge_tables.specs.Ends.{EndFlow}
use Rattle.edge_tables.specs.Outside.{OutsideFlow}
use Rattle.edge_tables.specs.Rows.{IsFlowEdge, IsLocalEdge}
use Rattle.edge_tables.specs.Table.{LocalFlow}
use Rattle.edge_tables.proofs.Joined.{local_is}
use Rattle.edge_tables.proofs.table.add_local.Goals as goal

pub returns : goal.returns
returns c = λ p of.
    let y = c.args.scene.now in
    let first = c.args.row.now.first in
    let nodes = c.args.row.now.nodes.now in
    let s = y.system.now in
    both_told c.add_again.result c.args.edges.now.items c.add_outside.new.edges.items c.add_again.new.edges.items
    (λ x. IsLocalEdge first nodes (EndFlow p c.args.m) x ⊎ IsLocalEdge first nodes (OutsideFlow s c.args.m) x) (IsLocalEdge first nodes (AgainFlow s c.args.m)) (IsFlowEdge y.rows.now y.firsts.now (LocalFlow p s) c.args.m)
    (local_is p s y.rows.now y.firsts.now c.args.m first nodes c.requires.row)
    (gains_both c.args.edges.now.items c.add_ends.new.edges.items c.add_outside.new.edges.items (IsLocalEdge first nodes (EndFlow p c.args.m)) (IsLocalEdge first nodes (OutsideFlow s c.args.m)) (c.in_ok-add_ends.ensures p of) c.in_ok-add_outside.ensures) c.add_again.ensures

use Rattle.std.proofs.Common.{◌≡◌, length, ap, sym, ◌∙◌}
use Rattle.std.proofs.lemmas.Bool.{false≢true}
use Rattle.slicer_ids.specs.declared.ids.MethodId.{MethodId}
use Rattle.worklists.specs.Growth.{FromOne}
use Rattle.mod_ref.proofs.Gaining.{gains_none}
use Rattle.mod_ref.proofs.Touched.{told}
use Rattle.edge_tables.specs.Again.{AgainFlow, IsAgainEdge}
use Rattle.edge_tables.specs.Rows.{IsLocalEdge}
use Rattle.edge_tables.proofs.AgainEdges.{again_to, again_from}
use Rattle.edge_tables.proofs.again.add_again.Goals as goal

pub returns-then-is_same : goal.returns-then-is_same
returns-then-is_same c =
    let first = c.args.row.now.first in
    let nodes = c.args.row.now.nodes.now in
    let s = c.args.scene.now.system.now in
    let root = ap (λ (z : MethodId). z.0) (c.is_same.ensures.0 c.if-is_same.true ∙ c.root_of.ensures) in
    let calls = length c.args.scene.now.entries.now in
    told c.add_nodes.result c.args.edges.now.items c.add_nodes.new.edges.items (FromOne (IsAgainEdge first nodes calls) nodes) (IsLocalEdge first nodes (AgainFlow s c.args.m))
    (λ x. (again_to first nodes s c.args.m root calls (c.requires.calls root) x, again_from first nodes s c.args.m root calls (c.requires.calls root) x)) c.add_nodes.ensures

pub returns-else-is_same : goal.returns-else-is_same
returns-else-is_same c =
    gains_none c.args.edges.now.items (IsLocalEdge c.args.row.now.first c.args.row.now.nodes.now (AgainFlow c.args.scene.now.system.now c.args.m))
    (λ x (k, j, start, end, (a, b, n, root, e, f, thin)). false≢true (sym c.if-is_same.false ∙ c.is_same.ensures.1 (ap (λ z. record { 0 = z }) root ∙ sym c.root_of.ensures)))

use Rattle.std.proofs.Common.{◌≡◌, sym, ◌∙◌}
use Rattle.worklists.specs.Growth.{FromOne}
use Rattle.mod_ref.proofs.Gaining.{gains_none}
use Rattle.mod_ref.proofs.Touched.{told}
use Rattle.edge_tables.specs.Calls.{IsFormalEdge, IsIntoLinkEdge}
use Rattle.edge_tables.proofs.CallEdges.{formals_are, into_row}
use Rattle.edge_tables.proofs.calls.add_link_into.Goals as goal

pub returns-in-None : goal.returns-in-None
returns-in-None c =
    let y = c.args.scene.now in
    gains_none c.args.edges.now.items (IsIntoLinkEdge y.rows.now y.firsts.now c.args.to.now.first c.args.to.now.nodes.now c.args.link) (λ e (a, xs, (v, at, is, first), h). c.in-None.ensures.missed v at)

pub returns-in-Some : goal.returns-in-Some
returns-in-Some c =
    let y = c.args.scene.now in
    let first = c.args.to.now.first in
    let nodes = c.args.to.now.nodes.now in
    let from = c.in-Some.from in
    let chosen = c.formals_of.result.now in
    told c.add_formals.result c.args.edges.now.items c.add_formals.new.edges.items (FromOne (IsFormalEdge from.first from.nodes.now first nodes c.args.link) chosen) (IsIntoLinkEdge y.rows.now y.firsts.now first nodes c.args.link)
    (λ x.
    let a = formals_are from.first from.nodes.now first nodes c.args.link chosen c.formals_of.ensures x in
    let b = into_row y.rows.now y.firsts.now first nodes c.args.link from.first from.nodes.now c.in-Some.ensures.found.0 x in
    (λ h. b.0 (a.0 h), λ h. a.1 (b.1 h))) c.add_formals.ensures

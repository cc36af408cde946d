use Rattle.std.proofs.Common.{◌≡◌, sym, ◌∙◌}
use Rattle.dep_form.specs.declared.node.Label.TheVariants.{Return as BackFrom}
use Rattle.mod_ref.proofs.Gaining.{gains_none}
use Rattle.mod_ref.proofs.Touched.{told}
use Rattle.edge_tables.specs.Calls.{IsExitEdge}
use Rattle.edge_tables.specs.Rows.{IsEdgeBetween}
use Rattle.edge_tables.proofs.CallEdges.{exit_is}
use Rattle.edge_tables.proofs.calls.add_exit.Goals as goal

pub returns-in-None : goal.returns-in-None
returns-in-None c = gains_none c.args.edges.now.items (IsExitEdge c.args.from.now.first c.args.from.now.nodes.now c.args.to.now.first c.args.to.now.nodes.now c.args.link c.args.exit) (λ x (j, comes, h). cc (sym c.in-None.is ∙ (c.node_after.ensures j).1 comes))

pub returns-in-Some : goal.returns-in-Some
returns-in-Some c =
    let a = c.args.from.now.first in
    let xs = c.args.from.now.nodes.now in
    let b = c.args.to.now.first in
    let ys = c.args.to.now.nodes.now in
    told c.add_between.result c.args.edges.now.items c.add_between.new.edges.items (IsEdgeBetween a xs c.args.exit b ys c.in-Some.j (BackFrom c.args.link.number)) (IsExitEdge a xs b ys c.args.link c.args.exit)
    (exit_is a xs b ys c.args.link c.args.exit c.in-Some.j c.node_after.result c.node_after.ensures c.in-Some.is) c.add_between.ensures

use Rattle.std.proofs.Common.{◌≡◌, sym, ◌∙◌}
use Rattle.dep_form.specs.declared.node.Label.TheVariants.{Call}
use Rattle.mod_ref.proofs.Gaining.{gains_none}
use Rattle.mod_ref.proofs.Touched.{told}
use Rattle.edge_tables.specs.Calls.{IsFormalEdge}
use Rattle.edge_tables.specs.Rows.{IsEdgeBetween}
use Rattle.edge_tables.proofs.CallEdges.{formal_is}
use Rattle.edge_tables.proofs.calls.add_formal.Goals as goal

pub returns-in-None : goal.returns-in-None
returns-in-None c = gains_none c.args.edges.now.items (IsFormalEdge c.args.from.now.first c.args.from.now.nodes.now c.args.to.now.first c.args.to.now.nodes.now c.args.link c.args.formal) (λ x (k, goes, h). cc (sym c.in-None.is ∙ (c.node_before.ensures k).1 goes))

pub returns-in-Some : goal.returns-in-Some
returns-in-Some c =
    let a = c.args.from.now.first in
    let xs = c.args.from.now.nodes.now in
    let b = c.args.to.now.first in
    let ys = c.args.to.now.nodes.now in
    told c.add_between.result c.args.edges.now.items c.add_between.new.edges.items (IsEdgeBetween a xs c.in-Some.k b ys c.args.formal (Call c.args.link.number)) (IsFormalEdge a xs b ys c.args.link c.args.formal)
    (formal_is a xs b ys c.args.link c.args.formal c.in-Some.k c.node_before.result c.node_before.ensures c.in-Some.is) c.add_between.ensures

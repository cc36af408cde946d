use Rattle.std.proofs.Common.{sym, ◌∙◌}
use Rattle.std.proofs.lemmas.Bool.{false≢true}
use Rattle.dep_form.specs.declared.node.Label.TheVariants.{Thin}
use Rattle.dep_form.specs.declared.node.Node.TheVariants.{Argument, Own}
use Rattle.mod_ref.proofs.Gaining.{gains_none}
use Rattle.mod_ref.proofs.Touched.{told}
use Rattle.edge_tables.specs.Outside.{IsPassedEdge}
use Rattle.edge_tables.specs.Rows.{IsEdgeBetween}
use Rattle.edge_tables.proofs.outside.add_written.Goals as goal

pub returns-then-is_listed : goal.returns-then-is_listed
returns-then-is_listed c =
    let first = c.args.row.now.first in
    let nodes = c.args.row.now.nodes.now in
    told c.add_within.result c.args.edges.now.items c.add_within.new.edges.items (IsEdgeBetween first nodes (Argument c.args.pc c.args.i) first nodes (Own c.args.pc) Thin) (IsPassedEdge first nodes c.args.written.now c.args.pc c.args.i)
    (λ x. (λ h. (c.is_listed.ensures.0 c.if-is_listed.true, h), λ w. w.1)) c.add_within.ensures

pub returns-else-is_listed : goal.returns-else-is_listed
returns-else-is_listed c = gains_none c.args.edges.now.items (IsPassedEdge c.args.row.now.first c.args.row.now.nodes.now c.args.written.now c.args.pc c.args.i) (λ x h. false≢true (sym c.if-is_listed.false ∙ c.is_listed.ensures.1 h.0))

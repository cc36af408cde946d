use Rattle.std.proofs.Common.{sym, ◌∙◌}
use Rattle.mod_ref.proofs.Gaining.{gains_none}
use Rattle.mod_ref.proofs.Touched.{told}
use Rattle.input_tables.specs.Edges.{IsEdgeFound, IsEdgeTo}
use Rattle.input_tables.proofs.RowEdges.{edge_found}
use Rattle.input_tables.proofs.edges.add_found.Goals as goal

pub returns-in-None : goal.returns-in-None
returns-in-None c = gains_none c.args.edges.now.items (IsEdgeFound c.args.first c.args.from c.args.to c.args.label) (λ x (a, e, f). cc (sym c.in-None.is ∙ e))

pub returns-in-Some : goal.returns-in-Some
returns-in-Some c = told c.add_to.result c.args.edges.now.items c.add_to.new.edges.items (IsEdgeTo c.args.first c.in-Some.a c.args.to c.args.label) (IsEdgeFound c.args.first c.args.from c.args.to c.args.label)
    (edge_found c.args.first c.in-Some.a c.args.from c.args.to c.args.label c.in-Some.is) c.add_to.ensures

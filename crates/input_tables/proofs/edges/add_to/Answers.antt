use Rattle.std.proofs.Common.{◌≡◌, ◌+◌, sym, ◌∙◌}
use Rattle.mod_ref.proofs.Gaining.{gains_none}
use Rattle.mod_ref.proofs.Touched.{told}
use Rattle.input_tables.specs.Edges.{IsEdgeTo, edge_of}
use Rattle.input_tables.proofs.RowEdges.{edge_to}
use Rattle.input_tables.proofs.edges.add_to.Goals as goal

pub returns-in-None : goal.returns-in-None
returns-in-None c = gains_none c.args.edges.now.items (IsEdgeTo c.args.first c.args.from c.args.to c.args.label) (λ x (b, e, f). cc (sym c.in-None.is ∙ e))

pub returns-in-Some : goal.returns-in-Some
returns-in-Some c = told c.push.result c.args.edges.now.items c.push.new.edges.items (λ x. x ≡ edge_of (c.args.first + c.args.from) (c.args.first + c.in-Some.b) c.args.label) (IsEdgeTo c.args.first c.args.from c.args.to c.args.label)
    (edge_to c.args.first c.args.from c.in-Some.b c.args.to c.args.label c.in-Some.is) c.push.ensures

use Rattle.std.proofs.Common.{◌≡◌, ◌+◌, sym, ◌∙◌}
use Rattle.mod_ref.proofs.Gaining.{gains_none}
use Rattle.mod_ref.proofs.Touched.{told}
use Rattle.edge_tables.specs.Rows.{IsFoundEdge, IsStartedEdge}
use Rattle.edge_tables.proofs.RowEdges.{found_is}
use Rattle.edge_tables.proofs.between.add_found.Goals as goal

pub returns-in-None : goal.returns-in-None
returns-in-None c = gains_none c.args.edges.now.items (IsFoundEdge c.args.from c.args.start c.args.to c.args.end c.args.label) (λ x (a, e, f). cc (sym c.in-None.is ∙ e))

pub returns-in-Some : goal.returns-in-Some
returns-in-Some c = told c.add_started.result c.args.edges.now.items c.add_started.new.edges.items (IsStartedEdge (c.args.from + c.in-Some.a) c.args.to c.args.end c.args.label) (IsFoundEdge c.args.from c.args.start c.args.to c.args.end c.args.label)
    (found_is c.args.from c.in-Some.a c.args.start c.args.to c.args.end c.args.label c.in-Some.is) c.add_started.ensures

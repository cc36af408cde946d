use Rattle.std.proofs.Common.{◌≡◌, ◌+◌, sym, ◌∙◌}
use Rattle.mod_ref.proofs.Gaining.{gains_none}
use Rattle.mod_ref.proofs.Touched.{told}
use Rattle.edge_tables.specs.Rows.{IsStartedEdge, edge_of}
use Rattle.edge_tables.proofs.RowEdges.{started_is}
use Rattle.edge_tables.proofs.between.add_started.Goals as goal

pub returns-in-None : goal.returns-in-None
returns-in-None c = gains_none c.args.edges.now.items (IsStartedEdge c.args.from c.args.first c.args.end c.args.label) (λ x (b, e, f). cc (sym c.in-None.is ∙ e))

pub returns-in-Some : goal.returns-in-Some
returns-in-Some c = told c.push.result c.args.edges.now.items c.push.new.edges.items (λ x. x ≡ edge_of c.args.from (c.args.first + c.in-Some.b) c.args.label) (IsStartedEdge c.args.from c.args.first c.args.end c.args.label)
    (started_is c.args.from c.args.first c.in-Some.b c.args.end c.args.label c.in-Some.is) c.push.ensures

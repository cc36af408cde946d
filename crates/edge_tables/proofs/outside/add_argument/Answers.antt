use Rattle.dep_form.specs.declared.node.Label.TheVariants.{Thin}
use Rattle.dep_form.specs.declared.node.Node.TheVariants.{Argument, Result}
use Rattle.mod_ref.proofs.Touched.{both_told}
use Rattle.edge_tables.specs.Outside.{IsArgumentEdge, IsPassedEdge}
use Rattle.edge_tables.specs.Rows.{IsEdgeBetween}
use Rattle.edge_tables.proofs.outside.add_argument.Goals as goal

pub returns : goal.returns
returns c =
    let first = c.args.row.now.first in
    let nodes = c.args.row.now.nodes.now in
    both_told c.add_written.result c.args.edges.now.items c.add_within.new.edges.items c.add_written.new.edges.items (IsEdgeBetween first nodes (Argument c.args.pc c.args.i) first nodes (Result c.args.pc) Thin) (IsPassedEdge first nodes c.args.written.now c.args.pc c.args.i) (IsArgumentEdge first nodes c.args.written.now c.args.pc c.args.i)
    (λ x. (λ h. h, λ h. h)) c.in_ok-add_within.ensures c.add_written.ensures

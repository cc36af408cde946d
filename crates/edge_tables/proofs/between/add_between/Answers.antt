use Rattle.std.proofs.Common.{arith}
use Rattle.std.proofs.lemmas.Option.{slice_get_within}
use Rattle.mod_ref.proofs.Touched.{told}
use Rattle.edge_tables.specs.Rows.{IsEdgeBetween, IsFoundEdge}
use Rattle.edge_tables.proofs.RowEdges.{between_is}
use Rattle.edge_tables.proofs.between.add_between.Goals as goal

pub add_found-requires-clause-start : goal.add_found-requires-clause-start
add_found-requires-clause-start c = λ i e. omega (arith, c.requires.from.numbers, slice_get_within c.args.from.now.nodes.now i c.args.k ((c.place_in-start.ensures i).0 e))

pub add_found-requires-clause-end : goal.add_found-requires-clause-end
add_found-requires-clause-end c = λ i e. omega (arith, c.requires.to.numbers, slice_get_within c.args.to.now.nodes.now i c.args.j ((c.place_in-end.ensures i).0 e))

pub returns : goal.returns
returns c = told c.add_found.result c.args.edges.now.items c.add_found.new.edges.items (IsFoundEdge c.args.from.now.first c.place_in-start.result c.args.to.now.first c.place_in-end.result c.args.label)
    (IsEdgeBetween c.args.from.now.first c.args.from.now.nodes.now c.args.k c.args.to.now.first c.args.to.now.nodes.now c.args.j c.args.label)
    (between_is c.args.from.now.first c.args.from.now.nodes.now c.args.k c.args.to.now.first c.args.to.now.nodes.now c.args.j c.place_in-start.result c.place_in-end.result c.args.label c.place_in-start.ensures c.place_in-end.ensures) c.add_found.ensures

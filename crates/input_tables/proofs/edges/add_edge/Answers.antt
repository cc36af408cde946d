use Rattle.std.proofs.Common.{arith}
use Rattle.std.proofs.lemmas.Option.{slice_get_within}
use Rattle.mod_ref.proofs.Touched.{told}
use Rattle.input_tables.specs.Edges.{IsEdgeBy, IsEdgeFound}
use Rattle.input_tables.proofs.RowEdges.{edge_by}
use Rattle.input_tables.proofs.edges.add_edge.Goals as goal

pub add_found-requires-clause-from : goal.add_found-requires-clause-from
add_found-requires-clause-from c = λ i e. omega (arith, c.requires.numbers, slice_get_within c.args.row.now i c.args.from ((c.place_in-start.ensures i).0 e))

pub add_found-requires-clause-to : goal.add_found-requires-clause-to
add_found-requires-clause-to c = λ i e. omega (arith, c.requires.numbers, slice_get_within c.args.row.now i c.args.to ((c.place_in-end.ensures i).0 e))

pub returns : goal.returns
returns c = told c.add_found.result c.args.edges.now.items c.add_found.new.edges.items (IsEdgeFound c.args.first c.place_in-start.result c.place_in-end.result c.args.label) (IsEdgeBy c.args.first c.args.row.now c.args.from c.args.to c.args.label)
    (edge_by c.args.first c.args.row.now c.args.from c.args.to c.place_in-start.result c.place_in-end.result c.args.label c.place_in-start.ensures c.place_in-end.ensures) c.add_found.ensures

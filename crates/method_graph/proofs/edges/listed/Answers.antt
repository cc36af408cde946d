use Rattle.std.proofs.Common.{map, ap, ◌∙◌}
use Rattle.std.proofs.lemmas.List.{take_all}
use Rattle.method_graph.specs.Edges.{edge_of}
use Rattle.method_graph.proofs.Mapped.{map_more}
use Rattle.method_graph.proofs.edges.listed.Goals as goal

pub loop-x-preserved : goal.loop-x-preserved
loop-x-preserved c = c.in_ok-push_edge.ensures ∙ map_more edge_of c.args.edges.now c.loop-x.x-index _ c.loop-x.all.items c.loop-x-test.true c.loop-x.invariant

pub returns : goal.returns
returns c = c.from_vec.ensures ∙ c.loop-x.invariant ∙ ap (map edge_of) (take_all c.loop-x.x-index c.args.edges.now c.loop-x-test.false)

use Rattle.std.proofs.Common.{◌≡◌, [], refl}
use Rattle.worklists.proofs.Growing.{Grows-more, of_whole}
use Rattle.dep_form.specs.declared.node.Edge.{Edge}
use Rattle.method_graph.specs.declared.edges.Ending.{Ending}
use Rattle.method_graph.specs.Edges.{ending_of}
use Rattle.method_graph.proofs.build.direct_edges.Goals as goal

pub loop-edge-preserved : goal.loop-edge-preserved
loop-edge-preserved c = Grows-more (λ (e : Edge) (x : Ending). x ≡ ending_of e) c.args.edges.now c.loop-edge.edge-index _ [] c.loop-edge.all.items c.add.new.items.items c.loop-edge-test.true c.loop-edge.invariant c.in_ok-add.ensures.grown

pub returns : goal.returns
returns c = of_whole (λ (e : Edge) (x : Ending). x ≡ ending_of e) c.args.edges.now c.loop-edge.edge-index [] c.loop-edge.all.items refl c.loop-edge-test.false c.loop-edge.invariant

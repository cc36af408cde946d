use Rattle.std.proofs.Common.{◌≡◌}
use Rattle.std.proofs.lemmas.Result.{on_ok_weaker}
use Rattle.worklists.proofs.Growing.{Grows-same}
use Rattle.method_graph.specs.declared.edges.Ending.{Ending}
use Rattle.method_graph.specs.Flows.{HasWay}
use Rattle.method_graph.specs.Edges.{flows_to}
use Rattle.method_graph.proofs.heap_flows.add_way.Goals as goal

pub returns-then-has : goal.returns-then-has
returns-then-has c =
    let w = c.args.ways.now in
    let s = c.args.source.now in
    let t = c.args.target.now in
    on_ok_weaker c.add_flow.result (λ m. Grows-same _ _ (λ (x : Ending). x ≡ flows_to s.node t.node) (λ (x : Ending). HasWay w.width w.words.items s.point t.point × (x ≡ flows_to s.node t.node))
    (λ x e. (c.has.ensures.0 c.if-has.true, e)) (λ x e. e.1) m) c.add_flow.ensures

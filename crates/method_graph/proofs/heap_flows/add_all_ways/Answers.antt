use Rattle.std.proofs.Common.{◌≡◌, ◌<◌, get_or}
use Rattle.std.proofs.lemmas.List.Elements.{Contains-get_or}
use Rattle.method_graph.specs.declared.locations.Access.{Access}
use Rattle.method_graph.specs.Flows.{HasWay}
use Rattle.method_graph.specs.Edges.{flows_to}
use Rattle.method_graph.specs.Heaps.{FlowsByWays}
use Rattle.worklists.proofs.Growing.{Grows-same}
use Rattle.method_graph.proofs.Between.{met_more, met_all, all_of}
use Rattle.method_graph.proofs.heap_flows.add_all_ways.Goals as goal

pub add_ways-requires-clause-sources : goal.add_ways-requires-clause-sources
add_ways-requires-clause-sources c = λ k d lt. all_of (λ (s : Access). s.point < c.args.ways.now.points) c.args.sources.now c.requires.sources _ ((c.at_location-met.ensures (get_or c.at_location-met.result.now k d)).0 (Contains-get_or c.at_location-met.result.now k d lt)).0

pub loop-target-preserved : goal.loop-target-preserved
loop-target-preserved c = met_more c.args.sources.now c.at_location-met.result.now c.args.targets.now (λ s t x. HasWay c.args.ways.now.width c.args.ways.now.words.items s.point t.point × (x ≡ flows_to s.node t.node)) c.loop-target.target-index _ c.args.edges.now.items c.loop-target.edges.items c.add_ways.new.edges.items
    c.loop-target-test.true c.at_location-met.ensures c.loop-target.invariant c.in_ok-add_ways.ensures

pub returns : goal.returns
returns c =
    let w = c.args.ways.now in
    Grows-same _ _ _ (FlowsByWays w c.args.sources.now c.args.targets.now) (λ x (s, t, m, p). (s, t, m, p.0, p.1)) (λ x (s, t, m, a, b). (s, t, m, (a, b)))
    (met_all c.args.sources.now c.args.targets.now (λ s t x. HasWay w.width w.words.items s.point t.point × (x ≡ flows_to s.node t.node)) c.loop-target.target-index c.args.edges.now.items c.loop-target.edges.items c.loop-target-test.false c.loop-target.invariant)

use Rattle.std.proofs.Common.{◌≡◌}
use Rattle.method_graph.specs.Edges.{flows_to}
use Rattle.method_graph.proofs.Between.{met_more, met_all}
use Rattle.method_graph.proofs.heap_flows.add_between.Goals as goal

pub loop-target-preserved : goal.loop-target-preserved
loop-target-preserved c = met_more c.args.sources.now c.at_location-met.result.now c.args.targets.now (λ s t x. x ≡ flows_to s.node t.node) c.loop-target.target-index _ c.args.edges.now.items c.loop-target.edges.items c.add_sources.new.edges.items
    c.loop-target-test.true c.at_location-met.ensures c.loop-target.invariant c.in_ok-add_sources.ensures

pub returns : goal.returns
returns c = met_all c.args.sources.now c.args.targets.now (λ s t x. x ≡ flows_to s.node t.node) c.loop-target.target-index c.args.edges.now.items c.loop-target.edges.items c.loop-target-test.false c.loop-target.invariant

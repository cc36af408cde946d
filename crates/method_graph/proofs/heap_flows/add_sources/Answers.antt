use Rattle.std.proofs.Common.{◌≡◌, subst}
use Rattle.std.proofs.lemmas.List.{take_all}
use Rattle.worklists.specs.Growth.{Grows, FromOne}
use Rattle.worklists.proofs.Growing.{Grows-more}
use Rattle.method_graph.specs.declared.locations.Access.{Access}
use Rattle.method_graph.specs.declared.edges.Ending.{Ending}
use Rattle.method_graph.specs.Edges.{flows_to}
use Rattle.method_graph.proofs.heap_flows.add_sources.Goals as goal

pub loop-source-preserved : goal.loop-source-preserved
loop-source-preserved c = Grows-more (λ (s : Access) (x : Ending). x ≡ flows_to s.node c.args.target.now.node)
    c.args.sources.now c.loop-source.source-index _ c.args.edges.now.items c.loop-source.edges.items c.add_flow.new.edges.items c.loop-source-test.true c.loop-source.invariant c.in_ok-add_flow.ensures

pub returns : goal.returns
returns c = subst (λ ss. Grows c.args.edges.now.items c.loop-source.edges.items (FromOne (λ (s : Access) (x : Ending). x ≡ flows_to s.node c.args.target.now.node) ss))
    (take_all c.loop-source.source-index c.args.sources.now c.loop-source-test.false) c.loop-source.invariant

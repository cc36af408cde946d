use Rattle.worklists.proofs.Growing.{Grows-same}
use Rattle.thin_slice.specs.Marks.{found}
use Rattle.thin_slice.specs.Steps.{StartsBefore}
use Rattle.thin_slice.specs.Over.{CallsInto, node_at}
use Rattle.thin_slice.proofs.Callees.{to_calls, from_calls, starts_below, points_rise}
use Rattle.thin_slice.proofs.over.over_formal.Goals as goal

pub starts-requires-clause-edges : goal.starts-requires-clause-edges
starts-requires-clause-edges c = starts_below c.args.f.now (node_at c.args.graph.now c.args.number) c.edges_into-edges.result.now c.edges_into-edges.ensures.into

pub starts-requires-clause-order : goal.starts-requires-clause-order
starts-requires-clause-order c = points_rise c.edges_into-edges.result.now c.args.c.first c.args.c.end c.count_before-low.result c.count_before-high.result c.requires.callers.0 c.count_before-low.ensures.bound c.count_before-low.ensures.point c.count_before-high.ensures.point

pub returns-clause-grown : goal.returns-clause-grown
returns-clause-grown c =
    let inputs = c.args.f.now.inputs in
    let call = c.args.c.call in
    let n = node_at c.args.graph.now c.args.number in
    let es = c.edges_into-edges.result.now in
    let into = c.edges_into-edges.ensures.into in
    let low = c.count_before-low.result in
    let high = c.count_before-high.result in
    Grows-same (found c.args.nodes.now) (found c.starts.new.nodes) (StartsBefore call low es high) (CallsInto inputs call n)
    (to_calls inputs n call es into low high)
    (from_calls inputs n call es into c.args.c.first c.args.c.end low high c.requires.callers.1 c.count_before-low.ensures.point c.count_before-high.ensures.point) c.starts.ensures.grown

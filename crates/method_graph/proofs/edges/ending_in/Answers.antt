use Rattle.std.proofs.Common.{◌≤◌}
use Rattle.method_graph.specs.Edges.{EndingBefore}
use Rattle.method_graph.specs.declared.edges.Ending.{Ending}
use Rattle.method_graph.proofs.Runs.{run_le, run_members, run_order}
use Rattle.method_graph.proofs.edges.ending_in.Goals as goal

le : (c : goal.After-count_through-high) → c.count_before-low.result ≤ c.count_through-high.result
le c = run_le (λ (a : Ending). a.to.0) c.args.edges.now c.args.node c.count_before-low.result c.count_through-high.result c.count_before-low.ensures.bound c.count_through-high.ensures.bound c.count_before-low.ensures.point c.count_through-high.ensures.point

pub slice_bounds-result-count : goal.slice_bounds-result-count
slice_bounds-result-count c = le c

pub slice_bounds-result-start : goal.slice_bounds-result-start
slice_bounds-result-start c = le c

pub returns-clause-order : goal.returns-clause-order
returns-clause-order c = run_order (λ (a : Ending). a.to.0) c.args.edges.now c.args.node c.count_before-low.result c.count_through-high.result c.count_before-low.ensures.bound c.count_through-high.ensures.bound c.count_before-low.ensures.point c.count_through-high.ensures.point EndingBefore c.requires

pub returns-clause-members : goal.returns-clause-members
returns-clause-members c = run_members (λ (a : Ending). a.to.0) c.args.edges.now c.args.node c.count_before-low.result c.count_through-high.result c.count_before-low.ensures.bound c.count_through-high.ensures.bound c.count_before-low.ensures.point c.count_through-high.ensures.point

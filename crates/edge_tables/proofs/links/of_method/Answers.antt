use Rattle.std.proofs.Common.{◌≤◌}
use Rattle.edge_tables.specs.declared.links.Link.{Link}
use Rattle.method_graph.proofs.Runs.{run_le, run_members}
use Rattle.edge_tables.proofs.links.of_method.Goals as goal

le : (c : goal.After-count_through-high) → c.count_before-low.result ≤ c.count_through-high.result
le c = run_le (λ (a : Link). a.key.0) c.args.links.now c.args.m.0 c.count_before-low.result c.count_through-high.result c.count_before-low.ensures.bound c.count_through-high.ensures.bound c.count_before-low.ensures.point c.count_through-high.ensures.point

pub slice_bounds-result-count : goal.slice_bounds-result-count
slice_bounds-result-count c = le c

pub slice_bounds-result-start : goal.slice_bounds-result-start
slice_bounds-result-start c = le c

pub returns : goal.returns
returns c = run_members (λ (a : Link). a.key.0) c.args.links.now c.args.m.0 c.count_before-low.result c.count_through-high.result c.count_before-low.ensures.bound c.count_through-high.ensures.bound c.count_before-low.ensures.point c.count_through-high.ensures.point

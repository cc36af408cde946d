use Rattle.std.proofs.Common.{◌≤◌}
use Rattle.input_tables.specs.declared.effects.Effect.{Effect}
use Rattle.method_graph.proofs.Runs.{run_le, run_members}
use Rattle.input_tables.proofs.runs.of_method.Goals as goal

le : (c : goal.After-count_through-high) → c.count_before-low.result ≤ c.count_through-high.result
le c = run_le (λ (a : Effect). a.at.method.0) c.args.effects.now c.args.m.0 c.count_before-low.result c.count_through-high.result c.count_before-low.ensures.bound c.count_through-high.ensures.bound c.count_before-low.ensures.point c.count_through-high.ensures.point

pub slice_bounds-result-count : goal.slice_bounds-result-count
slice_bounds-result-count c = le c

pub slice_bounds-result-start : goal.slice_bounds-result-start
slice_bounds-result-start c = le c

pub returns : goal.returns
returns c = run_members (λ (a : Effect). a.at.method.0) c.args.effects.now c.args.m.0 c.count_before-low.result c.count_through-high.result c.count_before-low.ensures.bound c.count_through-high.ensures.bound c.count_before-low.ensures.point c.count_through-high.ensures.point

use Rattle.std.proofs.Common.{◌≤◌}
use Rattle.slicer_ids.specs.declared.ids.ClassId.{ClassId}
use Rattle.slicer_ids.specs.declared.ids.MethodId.{MethodId}
use Rattle.constraint_rules.proofs.Runs.{run_le, run_members}
use Rattle.constraint_rules.proofs.classes.initializers_of.Goals as goal

le : (c : goal.After-count_through-high) → c.count_before-low.result ≤ c.count_through-high.result
le c =
    run_le (λ (x : ClassId × MethodId). x.0.0) c.args.initializers.now c.args.class.0 c.count_before-low.result c.count_through-high.result
    c.count_before-low.ensures.bound c.count_through-high.ensures.bound c.count_before-low.ensures.point c.count_through-high.ensures.point

pub slice_bounds-result-count : goal.slice_bounds-result-count
slice_bounds-result-count c = le c

pub slice_bounds-result-start : goal.slice_bounds-result-start
slice_bounds-result-start c = le c

pub returns : goal.returns
returns c =
    run_members (λ (x : ClassId × MethodId). x.0.0) c.args.initializers.now c.args.class.0 c.count_before-low.result c.count_through-high.result
    c.count_before-low.ensures.bound c.count_through-high.ensures.bound c.count_before-low.ensures.point c.count_through-high.ensures.point

use Rattle.std.proofs.Common.{◌≤◌, ℕ, ap}
use Rattle.slicer_ids.specs.declared.ids.CallId.{CallId}
use Rattle.method_graph.proofs.Runs.{run_le, run_members}
use Rattle.tabulate.specs.declared.method.Argument.{Argument}
use Rattle.tabulate.proofs.by_call.arguments_of_call.Goals as goal

le : (c : goal.After-arguments_through-high) → c.arguments_before-low.result ≤ c.arguments_through-high.result
le c = run_le (λ (x : Argument). x.call.0) c.args.arguments.now c.args.call.0 c.arguments_before-low.result c.arguments_through-high.result c.arguments_before-low.ensures.bound c.arguments_through-high.ensures.bound c.arguments_before-low.ensures.point c.arguments_through-high.ensures.point

pub slice_bounds-result-count : goal.slice_bounds-result-count
slice_bounds-result-count c = le c

pub slice_bounds-result-start : goal.slice_bounds-result-start
slice_bounds-result-start c = le c

pub returns : goal.returns
returns c = λ x.
    let m = run_members (λ (x : Argument). x.call.0) c.args.arguments.now c.args.call.0 c.arguments_before-low.result c.arguments_through-high.result c.arguments_before-low.ensures.bound c.arguments_through-high.ensures.bound c.arguments_before-low.ensures.point c.arguments_through-high.ensures.point x in
    (λ h. let k = m.0 h in (k.0, ap (λ (n : ℕ). record { 0 = n }) k.1), λ h. m.1 (h.0, ap (λ (k : CallId). k.0) h.1))

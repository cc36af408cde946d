use Rattle.std.proofs.Common.{◌≤◌, ℕ, ap}
use Rattle.slicer_ids.specs.declared.ids.CallId.{CallId}
use Rattle.method_graph.proofs.Runs.{run_le, run_members}
use Rattle.tabulate.specs.declared.method.Back.{Back}
use Rattle.tabulate.proofs.by_call.returns_of_call.Goals as goal

le : (c : goal.After-returns_through-high) → c.returns_before-low.result ≤ c.returns_through-high.result
le c = run_le (λ (x : Back). x.call.0) c.args.returns.now c.args.call.0 c.returns_before-low.result c.returns_through-high.result c.returns_before-low.ensures.bound c.returns_through-high.ensures.bound c.returns_before-low.ensures.point c.returns_through-high.ensures.point

pub slice_bounds-result-count : goal.slice_bounds-result-count
slice_bounds-result-count c = le c

pub slice_bounds-result-start : goal.slice_bounds-result-start
slice_bounds-result-start c = le c

pub returns : goal.returns
returns c = λ x.
    let m = run_members (λ (x : Back). x.call.0) c.args.returns.now c.args.call.0 c.returns_before-low.result c.returns_through-high.result c.returns_before-low.ensures.bound c.returns_through-high.ensures.bound c.returns_before-low.ensures.point c.returns_through-high.ensures.point x in
    (λ h. let k = m.0 h in (k.0, ap (λ (n : ℕ). record { 0 = n }) k.1), λ h. m.1 (h.0, ap (λ (k : CallId). k.0) h.1))

use Rattle.std.proofs.Common.{◌≤◌, ℕ, ap}
use Rattle.slicer_ids.specs.declared.ids.LocId.{LocId}
use Rattle.method_graph.specs.declared.locations.Access.{Access}
use Rattle.method_graph.proofs.Runs.{run_le, run_members}
use Rattle.method_graph.proofs.locations.at_location.Goals as goal

le : (c : goal.After-count_through-high) → c.count_before-low.result ≤ c.count_through-high.result
le c = run_le (λ (a : Access). a.location.0) c.args.accesses.now c.args.location.0 c.count_before-low.result c.count_through-high.result c.count_before-low.ensures.bound c.count_through-high.ensures.bound c.count_before-low.ensures.point c.count_through-high.ensures.point

pub slice_bounds-result-count : goal.slice_bounds-result-count
slice_bounds-result-count c = le c

pub slice_bounds-result-start : goal.slice_bounds-result-start
slice_bounds-result-start c = le c

pub returns : goal.returns
returns c = λ x.
    let m = run_members (λ (a : Access). a.location.0) c.args.accesses.now c.args.location.0 c.count_before-low.result c.count_through-high.result c.count_before-low.ensures.bound c.count_through-high.ensures.bound c.count_before-low.ensures.point c.count_through-high.ensures.point x in
    (λ h. let k = m.0 h in (k.0, ap (λ (n : ℕ). record { 0 = n }) k.1), λ h. m.1 (h.0, ap (λ (l : LocId). l.0) h.1))

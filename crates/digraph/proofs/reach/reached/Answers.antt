use Rattle.std.proofs.Common.{◌≡◌, ◌<◌, ℕ, true, length, sym, ◌∙◌, subst, refl, arith}
use Rattle.std.proofs.Common.{get_or, set, List, Contains, below_more}
use Rattle.std.proofs.lemmas.List.Elements.{Contains-get_or}
use Rattle.digraph.specs.Graphs.{targets, HasEdge, IsMarked}
use Rattle.slicer_ids.specs.Walks.{Leads, more}
use Rattle.digraph.proofs.Reaching.{target_within, targets_row, Contains-at, taken_within, marked_stays, marked_now, begins, takes_up, puts_down, marks_one, costs_one, reaches_marked}
use Rattle.digraph.proofs.reach.reached.Goals as goal

pub loop-node-init : goal.loop-node-init
loop-node-init c =
    let m = c.in_ok-marks.ensures.items_if_clones_equal (λ y h. h) in
    rw (c.in_ok-mark.ensures.marks, c.in_ok-mark.ensures.work, m, c.new-work.ensures.items) (begins (HasEdge c.args.graph.now) c.args.start (length c.args.graph.now) c.requires.start)

pub bounds-graph-node : goal.bounds-graph-node
bounds-graph-node c =
    taken_within _ _ _ _ _ _ c.in-Some.node c.in-Some.ensures.items c.loop-node.invariant

pub loop-target-init : goal.loop-target-init
loop-target-init c =
    let t = takes_up _ _ _ _ _ _ c.in-Some.node c.in-Some.ensures.items c.loop-node.invariant in
    record { search = t.0; marked = t.1; followed = λ k h. absurd (omega arith); cost = refl }

pub loop-node-preserved : goal.loop-node-preserved
loop-node-preserved c =
    let g = c.args.graph.now in
    let row = c.deref-target-items.result.now in
    let lt = taken_within _ _ _ _ _ _ c.in-Some.node c.in-Some.ensures.items c.loop-node.invariant in
    let e : targets g c.in-Some.node ≡ row = targets_row g c.in-Some.node c.index-graph-node.result lt c.index-graph-node.is ∙ sym c.deref-target-items.ensures.value in
    puts_down _ _ _ _ _ c.in-Some.node (λ b h. Contains-at row (IsMarked c.loop-target.marks.items) (λ k lt. c.loop-target.invariant.followed k (omega arith)) b (subst (λ (xs : List ℕ). Contains xs b) e h)) c.loop-target.invariant.search

pub loop-target-preserved : goal.loop-target-preserved
loop-target-preserved c =
    let g = c.args.graph.now in
    let row = c.deref-target-items.result.now in
    let i = c.loop-target.target-index in
    let marks = c.loop-target.marks.items in
    let lt = taken_within _ _ _ _ _ _ c.in-Some.node c.in-Some.ensures.items c.loop-node.invariant in
    let e : targets g c.in-Some.node ≡ row = targets_row g c.in-Some.node c.index-graph-node.result lt c.index-graph-node.is ∙ sym c.deref-target-items.ensures.value in
    let target = get_or row i 0 in
    let edge : HasEdge g c.in-Some.node target = subst (λ (xs : List ℕ). Contains xs target) (sym e) (Contains-get_or row i 0 c.loop-target-test.true) in
    let reach : Leads (HasEdge g) c.args.start target = more (c.loop-target.invariant.search.sound c.in-Some.node c.loop-target.invariant.marked) edge in
    let here : Contains row target = Contains-get_or row i 0 c.loop-target-test.true in
    let within : target < length marks = omega (arith, c.loop-target.invariant.search.len, target_within g c.in-Some.node target c.index-graph-node.result c.requires.graph lt c.index-graph-node.is (subst (λ (xs : List ℕ). Contains xs target) c.deref-target-items.ensures.value here)) in
    rw (c.in_ok-mark-2.ensures.marks, c.in_ok-mark-2.ensures.work) (record {
      search = marks_one _ _ _ _ marks c.loop-target.work.items target within reach c.loop-target.invariant.search;
      marked = marked_stays marks target c.in-Some.node c.loop-target.invariant.marked;
      followed = below_more (λ k. IsMarked (set marks target true) (get_or row k 0)) i (λ k h. marked_stays marks target (get_or row k 0) (c.loop-target.invariant.followed k h)) (marked_now marks target within);
      cost = costs_one marks c.loop-target.work.items target within ∙ c.loop-target.invariant.cost;
    })

pub returns-clause-exact : goal.returns-clause-exact
returns-clause-exact c = λ n. (c.loop-node.invariant.sound n, reaches_marked _ _ _ _ c.loop-node.work.items (omega (arith, c.in_default.ensures.cases)) c.loop-node.invariant n)

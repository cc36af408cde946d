use Rattle.std.proofs.Common.{◌∙◌, ℕ, List, Contains, inl, inr, sym, subst, ap}
use Rattle.std.specs.Prelude.{◌↔◌}
use Rattle.slicer_ids.specs.declared.ids.ExitId.{ExitId}
use Rattle.dep_form.specs.declared.node.Edge.{Edge}
use Rattle.tabulate.specs.Frames.{width}
use Rattle.tabulate.specs.Methods.{IsMet}
use Rattle.tabulate.specs.Found.{Got, Todo, IsOpen, Goes}
use Rattle.tabulate.specs.Rules.{FromOne, Follows}
use Rattle.tabulate.specs.States.{Open, OfNode, IsReturnFrom, MeetStep}
use Rattle.tabulate.proofs.Backward.{done_same, all_demanded, node_open, node_met, edges_met, back_holds, back_done}
use Rattle.tabulate.specs.Tables.{IsFirst}
use Rattle.tabulate.proofs.tabulation.go_back.Goals as goal

pub returns-then-is_empty-clause-done : goal.returns-then-is_empty-clause-done
returns-then-is_empty-clause-done g c =
    let p = c.args.f.now in
    let ts = c.args.found.now.items in
    done_same p c.args.mode c.args.hands.now (Got p ts) (Open (Todo p ts) (OfNode c.args.n c.args.delta.now)) (Todo p ts) c.requires.done (λ q w. elim w [ inl t ↦ t | inr b ↦ absurd (c.is_empty.ensures.none c.if-is_empty.true q.1 b.1) ]) (λ q t. c.requires.done.sub q (inl t))

pub meet_all-requires-clause-demanded : goal.meet_all-requires-clause-demanded
meet_all-requires-clause-demanded g c =
    let p = c.args.f.now in
    let edges : List Edge = c.copy_edges.new.into.items in
    let exits : List ExitId = c.exits_of_returns.new.into.items in
    let some = c.is_empty.ensures.some c.if-is_empty.false in
    let exits_are : (k : ExitId) → Contains exits k ↔ ((r : Edge) × Contains edges r × IsReturnFrom p k r) = λ k. subst (λ (ys : List Edge). Contains exits k ↔ ((r : Edge) × Contains ys r × IsReturnFrom p k r)) c.deref.ensures.value (c.in_ok-exits_of_returns.ensures k) in
    λ k m. all_demanded p c.args.mode (IsFirst c.args.e c.args.more.now) (λ d. g.R.Rows.surely c.args.rows.now d c.args.mode) (λ d. g.R.Rows.surely c.args.rows.now d c.args.mode) c.args.methods.now.items c.args.methods.now.items c.args.hands.now c.args.hands.now c.args.asked.now.items c.args.asked.now.items c.args.found.now.items c.args.found.now.items c.args.found.now.items c.args.queue.now.items c.args.queue.now.items c.args.queue.now.items c.args.steps.now c.args.steps.now c.args.steps.now c.args.n c.args.delta.now edges exits c.requires.holds c.requires.done c.requires.delta.1 some c.in_ok-copy_edges.ensures.edges exits_are k (subst (λ (ys : List ExitId). Contains ys k) c.deref-2.ensures.value m)

pub follow_from-requires-clause-method : goal.follow_from-requires-clause-method
follow_from-requires-clause-method g c =
    let p = c.args.f.now in
    let edges : List Edge = c.copy_edges.new.into.items in
    let exits : List ExitId = c.exits_of_returns.new.into.items in
    let some = c.is_empty.ensures.some c.if-is_empty.false in
    let exits_are : (k : ExitId) → Contains exits k ↔ ((r : Edge) × Contains edges r × IsReturnFrom p k r) = λ k. subst (λ (ys : List Edge). Contains exits k ↔ ((r : Edge) × Contains ys r × IsReturnFrom p k r)) c.deref.ensures.value (c.in_ok-exits_of_returns.ensures k) in
    let step : MeetStep p c.args.mode (IsFirst c.args.e c.args.more.now) (λ d. g.R.Rows.surely c.args.rows.now d c.args.mode) (λ d. g.R.Rows.surely c.meet_all.new.rows d c.args.mode) (Contains exits) c.meet_all.new.methods.items c.args.hands.now c.meet_all.new.hands c.args.asked.now.items c.meet_all.new.asked.items c.args.found.now.items c.meet_all.new.found.items c.args.queue.now.items c.meet_all.new.queue.items c.args.steps.now c.meet_all.new.steps = subst (λ (ys : List ExitId). MeetStep p c.args.mode (IsFirst c.args.e c.args.more.now) (λ d. g.R.Rows.surely c.args.rows.now d c.args.mode) (λ d. g.R.Rows.surely c.meet_all.new.rows d c.args.mode) (Contains ys) c.meet_all.new.methods.items c.args.hands.now c.meet_all.new.hands c.args.asked.now.items c.meet_all.new.asked.items c.args.found.now.items c.meet_all.new.found.items c.args.queue.now.items c.meet_all.new.queue.items c.args.steps.now c.meet_all.new.steps) c.deref-2.ensures.value c.in_ok-meet_all.ensures.step in
    subst (λ (m : ℕ). IsMet c.meet_all.new.methods.items m) (sym c.owner-m.ensures.is) (node_met p c.args.mode (IsFirst c.args.e c.args.more.now) (λ d. g.R.Rows.surely c.args.rows.now d c.args.mode) (λ d. g.R.Rows.surely c.meet_all.new.rows d c.args.mode) c.args.methods.now.items c.meet_all.new.methods.items c.args.hands.now c.meet_all.new.hands c.args.asked.now.items c.meet_all.new.asked.items c.args.found.now.items c.meet_all.new.found.items c.meet_all.new.found.items c.args.queue.now.items c.meet_all.new.queue.items c.meet_all.new.queue.items c.args.steps.now c.meet_all.new.steps c.meet_all.new.steps c.args.n c.args.delta.now edges exits c.requires.holds c.requires.done c.requires.delta.1 some c.in_ok-copy_edges.ensures.edges exits_are step)

pub follow_from-requires-clause-delta : goal.follow_from-requires-clause-delta
follow_from-requires-clause-delta g c = c.requires.delta.0 ∙ sym (ap (width c.args.f.now) c.owner-m.ensures.is)

pub follow_from-requires-clause-edges : goal.follow_from-requires-clause-edges
follow_from-requires-clause-edges g c =
    let p = c.args.f.now in
    let edges : List Edge = c.copy_edges.new.into.items in
    let exits : List ExitId = c.exits_of_returns.new.into.items in
    let some = c.is_empty.ensures.some c.if-is_empty.false in
    let exits_are : (k : ExitId) → Contains exits k ↔ ((r : Edge) × Contains edges r × IsReturnFrom p k r) = λ k. subst (λ (ys : List Edge). Contains exits k ↔ ((r : Edge) × Contains ys r × IsReturnFrom p k r)) c.deref.ensures.value (c.in_ok-exits_of_returns.ensures k) in
    let step : MeetStep p c.args.mode (IsFirst c.args.e c.args.more.now) (λ d. g.R.Rows.surely c.args.rows.now d c.args.mode) (λ d. g.R.Rows.surely c.meet_all.new.rows d c.args.mode) (Contains exits) c.meet_all.new.methods.items c.args.hands.now c.meet_all.new.hands c.args.asked.now.items c.meet_all.new.asked.items c.args.found.now.items c.meet_all.new.found.items c.args.queue.now.items c.meet_all.new.queue.items c.args.steps.now c.meet_all.new.steps = subst (λ (ys : List ExitId). MeetStep p c.args.mode (IsFirst c.args.e c.args.more.now) (λ d. g.R.Rows.surely c.args.rows.now d c.args.mode) (λ d. g.R.Rows.surely c.meet_all.new.rows d c.args.mode) (Contains ys) c.meet_all.new.methods.items c.args.hands.now c.meet_all.new.hands c.args.asked.now.items c.meet_all.new.asked.items c.args.found.now.items c.meet_all.new.found.items c.args.queue.now.items c.meet_all.new.queue.items c.args.steps.now c.meet_all.new.steps) c.deref-2.ensures.value c.in_ok-meet_all.ensures.step in
    λ r m. edges_met p c.args.mode (IsFirst c.args.e c.args.more.now) (λ d. g.R.Rows.surely c.args.rows.now d c.args.mode) (λ d. g.R.Rows.surely c.meet_all.new.rows d c.args.mode) c.args.methods.now.items c.meet_all.new.methods.items c.args.hands.now c.meet_all.new.hands c.args.asked.now.items c.meet_all.new.asked.items c.args.found.now.items c.meet_all.new.found.items c.meet_all.new.found.items c.args.queue.now.items c.meet_all.new.queue.items c.meet_all.new.queue.items c.args.steps.now c.meet_all.new.steps c.meet_all.new.steps c.args.n c.args.delta.now edges exits c.requires.holds c.requires.done c.requires.delta.1 some c.in_ok-copy_edges.ensures.edges exits_are step r (subst (λ (ys : List Edge). Contains ys r) c.deref-3.ensures.value m)

pub follow_from-requires-clause-opened : goal.follow_from-requires-clause-opened
follow_from-requires-clause-opened g c =
    let p = c.args.f.now in
    let edges : List Edge = c.copy_edges.new.into.items in
    let exits : List ExitId = c.exits_of_returns.new.into.items in
    let some = c.is_empty.ensures.some c.if-is_empty.false in
    let exits_are : (k : ExitId) → Contains exits k ↔ ((r : Edge) × Contains edges r × IsReturnFrom p k r) = λ k. subst (λ (ys : List Edge). Contains exits k ↔ ((r : Edge) × Contains ys r × IsReturnFrom p k r)) c.deref.ensures.value (c.in_ok-exits_of_returns.ensures k) in
    let step : MeetStep p c.args.mode (IsFirst c.args.e c.args.more.now) (λ d. g.R.Rows.surely c.args.rows.now d c.args.mode) (λ d. g.R.Rows.surely c.meet_all.new.rows d c.args.mode) (Contains exits) c.meet_all.new.methods.items c.args.hands.now c.meet_all.new.hands c.args.asked.now.items c.meet_all.new.asked.items c.args.found.now.items c.meet_all.new.found.items c.args.queue.now.items c.meet_all.new.queue.items c.args.steps.now c.meet_all.new.steps = subst (λ (ys : List ExitId). MeetStep p c.args.mode (IsFirst c.args.e c.args.more.now) (λ d. g.R.Rows.surely c.args.rows.now d c.args.mode) (λ d. g.R.Rows.surely c.meet_all.new.rows d c.args.mode) (Contains ys) c.meet_all.new.methods.items c.args.hands.now c.meet_all.new.hands c.args.asked.now.items c.meet_all.new.asked.items c.args.found.now.items c.meet_all.new.found.items c.args.queue.now.items c.meet_all.new.queue.items c.args.steps.now c.meet_all.new.steps) c.deref-2.ensures.value c.in_ok-meet_all.ensures.step in
    subst (λ (m : ℕ). IsOpen p c.meet_all.new.found.items m) (sym c.owner-m.ensures.is) (node_open p c.args.mode (IsFirst c.args.e c.args.more.now) (λ d. g.R.Rows.surely c.args.rows.now d c.args.mode) (λ d. g.R.Rows.surely c.meet_all.new.rows d c.args.mode) c.args.methods.now.items c.meet_all.new.methods.items c.args.hands.now c.meet_all.new.hands c.args.asked.now.items c.meet_all.new.asked.items c.args.found.now.items c.meet_all.new.found.items c.meet_all.new.found.items c.args.queue.now.items c.meet_all.new.queue.items c.meet_all.new.queue.items c.args.steps.now c.meet_all.new.steps c.meet_all.new.steps c.args.n c.args.delta.now edges exits c.requires.holds c.requires.done c.requires.delta.1 some c.in_ok-copy_edges.ensures.edges exits_are step)

pub returns-in_err-follow_from-clause-graphs : goal.returns-in_err-follow_from-clause-graphs
returns-in_err-follow_from-clause-graphs g c = (c.meet_all.ensures.graphs.0, g.met.G.Graphs.later_trans c.args.graphs.now c.copy_edges.new.graphs c.meet_all.new.graphs c.copy_edges.ensures.graphs.1 c.meet_all.ensures.graphs.1)

pub returns-clause-graphs : goal.returns-clause-graphs
returns-clause-graphs g c = (c.meet_all.ensures.graphs.0, g.met.G.Graphs.later_trans c.args.graphs.now c.copy_edges.new.graphs c.meet_all.new.graphs c.copy_edges.ensures.graphs.1 c.meet_all.ensures.graphs.1)

pub returns-clause-holds : goal.returns-clause-holds
returns-clause-holds g c =
    let p = c.args.f.now in
    let edges : List Edge = c.copy_edges.new.into.items in
    let exits : List ExitId = c.exits_of_returns.new.into.items in
    let some = c.is_empty.ensures.some c.if-is_empty.false in
    let exits_are : (k : ExitId) → Contains exits k ↔ ((r : Edge) × Contains edges r × IsReturnFrom p k r) = λ k. subst (λ (ys : List Edge). Contains exits k ↔ ((r : Edge) × Contains ys r × IsReturnFrom p k r)) c.deref.ensures.value (c.in_ok-exits_of_returns.ensures k) in
    let step : MeetStep p c.args.mode (IsFirst c.args.e c.args.more.now) (λ d. g.R.Rows.surely c.args.rows.now d c.args.mode) (λ d. g.R.Rows.surely c.meet_all.new.rows d c.args.mode) (Contains exits) c.meet_all.new.methods.items c.args.hands.now c.meet_all.new.hands c.args.asked.now.items c.meet_all.new.asked.items c.args.found.now.items c.meet_all.new.found.items c.args.queue.now.items c.meet_all.new.queue.items c.args.steps.now c.meet_all.new.steps = subst (λ (ys : List ExitId). MeetStep p c.args.mode (IsFirst c.args.e c.args.more.now) (λ d. g.R.Rows.surely c.args.rows.now d c.args.mode) (λ d. g.R.Rows.surely c.meet_all.new.rows d c.args.mode) (Contains ys) c.meet_all.new.methods.items c.args.hands.now c.meet_all.new.hands c.args.asked.now.items c.meet_all.new.asked.items c.args.found.now.items c.meet_all.new.found.items c.args.queue.now.items c.meet_all.new.queue.items c.args.steps.now c.meet_all.new.steps) c.deref-2.ensures.value c.in_ok-meet_all.ensures.step in
    let goes : Goes p c.meet_all.new.found.items c.follow_from.new.found.items c.meet_all.new.queue.items c.follow_from.new.queue.items c.meet_all.new.steps c.follow_from.new.steps (FromOne (Follows p c.args.mode c.meet_all.new.hands c.args.n c.args.delta.now) edges) = subst (λ (ys : List Edge). Goes p c.meet_all.new.found.items c.follow_from.new.found.items c.meet_all.new.queue.items c.follow_from.new.queue.items c.meet_all.new.steps c.follow_from.new.steps (FromOne (Follows p c.args.mode c.meet_all.new.hands c.args.n c.args.delta.now) ys)) c.deref-3.ensures.value c.in_ok-follow_from.ensures.goes in
    back_holds p c.args.mode (IsFirst c.args.e c.args.more.now) (λ d. g.R.Rows.surely c.args.rows.now d c.args.mode) (λ d. g.R.Rows.surely c.meet_all.new.rows d c.args.mode) c.args.methods.now.items c.meet_all.new.methods.items c.args.hands.now c.meet_all.new.hands c.args.asked.now.items c.meet_all.new.asked.items c.args.found.now.items c.meet_all.new.found.items c.follow_from.new.found.items c.args.queue.now.items c.meet_all.new.queue.items c.follow_from.new.queue.items c.args.steps.now c.meet_all.new.steps c.follow_from.new.steps c.args.n c.args.delta.now edges exits c.requires.holds c.requires.done c.requires.delta.1 some c.in_ok-copy_edges.ensures.edges exits_are step goes

pub returns-clause-done : goal.returns-clause-done
returns-clause-done g c =
    let p = c.args.f.now in
    let edges : List Edge = c.copy_edges.new.into.items in
    let exits : List ExitId = c.exits_of_returns.new.into.items in
    let some = c.is_empty.ensures.some c.if-is_empty.false in
    let exits_are : (k : ExitId) → Contains exits k ↔ ((r : Edge) × Contains edges r × IsReturnFrom p k r) = λ k. subst (λ (ys : List Edge). Contains exits k ↔ ((r : Edge) × Contains ys r × IsReturnFrom p k r)) c.deref.ensures.value (c.in_ok-exits_of_returns.ensures k) in
    let step : MeetStep p c.args.mode (IsFirst c.args.e c.args.more.now) (λ d. g.R.Rows.surely c.args.rows.now d c.args.mode) (λ d. g.R.Rows.surely c.meet_all.new.rows d c.args.mode) (Contains exits) c.meet_all.new.methods.items c.args.hands.now c.meet_all.new.hands c.args.asked.now.items c.meet_all.new.asked.items c.args.found.now.items c.meet_all.new.found.items c.args.queue.now.items c.meet_all.new.queue.items c.args.steps.now c.meet_all.new.steps = subst (λ (ys : List ExitId). MeetStep p c.args.mode (IsFirst c.args.e c.args.more.now) (λ d. g.R.Rows.surely c.args.rows.now d c.args.mode) (λ d. g.R.Rows.surely c.meet_all.new.rows d c.args.mode) (Contains ys) c.meet_all.new.methods.items c.args.hands.now c.meet_all.new.hands c.args.asked.now.items c.meet_all.new.asked.items c.args.found.now.items c.meet_all.new.found.items c.args.queue.now.items c.meet_all.new.queue.items c.args.steps.now c.meet_all.new.steps) c.deref-2.ensures.value c.in_ok-meet_all.ensures.step in
    let goes : Goes p c.meet_all.new.found.items c.follow_from.new.found.items c.meet_all.new.queue.items c.follow_from.new.queue.items c.meet_all.new.steps c.follow_from.new.steps (FromOne (Follows p c.args.mode c.meet_all.new.hands c.args.n c.args.delta.now) edges) = subst (λ (ys : List Edge). Goes p c.meet_all.new.found.items c.follow_from.new.found.items c.meet_all.new.queue.items c.follow_from.new.queue.items c.meet_all.new.steps c.follow_from.new.steps (FromOne (Follows p c.args.mode c.meet_all.new.hands c.args.n c.args.delta.now) ys)) c.deref-3.ensures.value c.in_ok-follow_from.ensures.goes in
    back_done p c.args.mode (IsFirst c.args.e c.args.more.now) (λ d. g.R.Rows.surely c.args.rows.now d c.args.mode) (λ d. g.R.Rows.surely c.meet_all.new.rows d c.args.mode) c.args.methods.now.items c.meet_all.new.methods.items c.args.hands.now c.meet_all.new.hands c.args.asked.now.items c.meet_all.new.asked.items c.args.found.now.items c.meet_all.new.found.items c.follow_from.new.found.items c.args.queue.now.items c.meet_all.new.queue.items c.follow_from.new.queue.items c.args.steps.now c.meet_all.new.steps c.follow_from.new.steps c.args.n c.args.delta.now edges exits c.requires.holds c.requires.done c.requires.delta.1 some c.in_ok-copy_edges.ensures.edges exits_are step goes

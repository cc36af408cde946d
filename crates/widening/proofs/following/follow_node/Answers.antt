use Rattle.std.proofs.Common.{◌∙◌, ℕ, List, Contains, refl, sym, subst, ap}
use Rattle.std.specs.Prelude.{◌↔◌}
use Rattle.std.proofs.lemmas.Option.{slice_get_within}
use Rattle.slicer_ids.specs.declared.ids.ExitId.{ExitId}
use Rattle.slicer_ids.specs.declared.ids.Mode.TheVariants.{Full}
use Rattle.dep_form.specs.declared.node.Edge.{Edge}
use Rattle.tabulate.specs.Frames.{width}
use Rattle.tabulate.specs.Methods.{IsMet}
use Rattle.tabulate.specs.Found.{IsOpen, Goes}
use Rattle.tabulate.specs.Rules.{FromOne, Follows}
use Rattle.tabulate.specs.States.{IsReturnFrom}
use Rattle.tabulate.proofs.DoneLaws.{not_both}
use Rattle.widening.specs.Edges.{Widened}
use Rattle.widening.specs.Pairs.{IsAskedStep}
use Rattle.widening.proofs.FollowLaws.{followed_none, node_open, node_met, callee_met, followed}
use Rattle.widening.proofs.following.follow_node.Goals as goal

pub returns-then-is_empty-clause-followed : goal.returns-then-is_empty-clause-followed
returns-then-is_empty-clause-followed g c = followed_none c.args.f.now (Widened c.args.f.now c.args.expansions.now) c.args.n c.args.delta.now c.args.methods.now.items c.args.pairs.now c.args.tally.now c.requires.pairs (c.is_empty.ensures.none c.if-is_empty.true)

pub ask_all-requires-clause-exits : goal.ask_all-requires-clause-exits
ask_all-requires-clause-exits g c =
    let f = c.args.f.now in
    let E = Widened f c.args.expansions.now in
    let n = c.args.n in
    let delta : List ℕ = c.args.delta.now in
    let edges : List Edge = c.edges_into.new.into.items in
    let exits : List ExitId = c.exits_of_returns.new.into.items in
    let some = c.is_empty.ensures.some c.if-is_empty.false in
    let exits_are : (k : ExitId) → Contains exits k ↔ ((r : Edge) × Contains edges r × IsReturnFrom f k r) = λ k. subst (λ (ys : List Edge). Contains exits k ↔ ((r : Edge) × Contains ys r × IsReturnFrom f k r)) c.deref.ensures.value (c.in_ok-exits_of_returns.ensures k) in
    λ d k. let r = (exits_are d).0 (subst (λ (ys : List ExitId). Contains ys d) c.deref-2.ensures.value k) in slice_get_within f.exits d.0 r.0.from r.2.0

pub follow_from-requires-clause-method : goal.follow_from-requires-clause-method
follow_from-requires-clause-method g c =
    let f = c.args.f.now in
    let E = Widened f c.args.expansions.now in
    let n = c.args.n in
    let delta : List ℕ = c.args.delta.now in
    let edges : List Edge = c.edges_into.new.into.items in
    let exits : List ExitId = c.exits_of_returns.new.into.items in
    let some = c.is_empty.ensures.some c.if-is_empty.false in
    let exits_are : (k : ExitId) → Contains exits k ↔ ((r : Edge) × Contains edges r × IsReturnFrom f k r) = λ k. subst (λ (ys : List Edge). Contains exits k ↔ ((r : Edge) × Contains ys r × IsReturnFrom f k r)) c.deref.ensures.value (c.in_ok-exits_of_returns.ensures k) in
    let p = c.args.pairs.now in
    let p1 = c.ask_all.new.pairs in
    let ms = c.args.methods.now.items in
    let ms1 = c.ask_all.new.methods.items in
    let step : IsAskedStep f E (Contains exits) ms1 p p1 c.args.tally.now c.ask_all.new.tally = subst (λ (ys : List ExitId). IsAskedStep f E (Contains ys) ms1 p p1 c.args.tally.now c.ask_all.new.tally) c.deref-2.ensures.value c.in_ok-ask_all.ensures.step in
    subst (λ (m : ℕ). IsMet ms1 m) (sym c.owner-m.ensures.is) (node_met f E ms ms1 p p1 p1 c.args.tally.now c.ask_all.new.tally c.ask_all.new.tally n delta edges exits c.new-hands.result c.new-hands.ensures c.requires.pairs c.requires.delta.1 some c.in_ok-edges_into.ensures.edges exits_are step)

pub follow_from-requires-clause-delta : goal.follow_from-requires-clause-delta
follow_from-requires-clause-delta g c = c.requires.delta.0 ∙ sym (ap (width c.args.f.now) c.owner-m.ensures.is)

pub follow_from-requires-clause-edges : goal.follow_from-requires-clause-edges
follow_from-requires-clause-edges g c =
    let f = c.args.f.now in
    let E = Widened f c.args.expansions.now in
    let n = c.args.n in
    let delta : List ℕ = c.args.delta.now in
    let edges : List Edge = c.edges_into.new.into.items in
    let exits : List ExitId = c.exits_of_returns.new.into.items in
    let some = c.is_empty.ensures.some c.if-is_empty.false in
    let exits_are : (k : ExitId) → Contains exits k ↔ ((r : Edge) × Contains edges r × IsReturnFrom f k r) = λ k. subst (λ (ys : List Edge). Contains exits k ↔ ((r : Edge) × Contains ys r × IsReturnFrom f k r)) c.deref.ensures.value (c.in_ok-exits_of_returns.ensures k) in
    let p = c.args.pairs.now in
    let p1 = c.ask_all.new.pairs in
    let ms = c.args.methods.now.items in
    let ms1 = c.ask_all.new.methods.items in
    let step : IsAskedStep f E (Contains exits) ms1 p p1 c.args.tally.now c.ask_all.new.tally = subst (λ (ys : List ExitId). IsAskedStep f E (Contains ys) ms1 p p1 c.args.tally.now c.ask_all.new.tally) c.deref-2.ensures.value c.in_ok-ask_all.ensures.step in
    λ r m.
    let k = subst (λ (ys : List Edge). Contains ys r) c.deref-3.ensures.value m in
    let is = (c.in_ok-edges_into.ensures.edges r).0 k in
    (is.0.0, is.1, λ j l. callee_met f E ms ms1 p p1 p1 c.args.tally.now c.ask_all.new.tally c.ask_all.new.tally n delta edges exits c.new-hands.result c.new-hands.ensures c.requires.pairs c.requires.delta.1 some c.in_ok-edges_into.ensures.edges exits_are step r k j l)

pub follow_from-requires-clause-hands : goal.follow_from-requires-clause-hands
follow_from-requires-clause-hands g c = λ d bits e. absurd (not_both bits (sym e ∙ c.new-hands.ensures d.0))

pub follow_from-requires-clause-opened : goal.follow_from-requires-clause-opened
follow_from-requires-clause-opened g c =
    let f = c.args.f.now in
    let E = Widened f c.args.expansions.now in
    let n = c.args.n in
    let delta : List ℕ = c.args.delta.now in
    let edges : List Edge = c.edges_into.new.into.items in
    let exits : List ExitId = c.exits_of_returns.new.into.items in
    let some = c.is_empty.ensures.some c.if-is_empty.false in
    let exits_are : (k : ExitId) → Contains exits k ↔ ((r : Edge) × Contains edges r × IsReturnFrom f k r) = λ k. subst (λ (ys : List Edge). Contains exits k ↔ ((r : Edge) × Contains ys r × IsReturnFrom f k r)) c.deref.ensures.value (c.in_ok-exits_of_returns.ensures k) in
    let p = c.args.pairs.now in
    let p1 = c.ask_all.new.pairs in
    let ms = c.args.methods.now.items in
    let ms1 = c.ask_all.new.methods.items in
    let step : IsAskedStep f E (Contains exits) ms1 p p1 c.args.tally.now c.ask_all.new.tally = subst (λ (ys : List ExitId). IsAskedStep f E (Contains ys) ms1 p p1 c.args.tally.now c.ask_all.new.tally) c.deref-2.ensures.value c.in_ok-ask_all.ensures.step in
    subst (λ (m : ℕ). IsOpen f p1.found.items m) (sym c.owner-m.ensures.is) (node_open f E ms ms1 p p1 p1 c.args.tally.now c.ask_all.new.tally c.ask_all.new.tally n delta edges exits c.new-hands.result c.new-hands.ensures c.requires.pairs c.requires.delta.1 some c.in_ok-edges_into.ensures.edges exits_are step)

pub returns-clause-followed : goal.returns-clause-followed
returns-clause-followed g c =
    let f = c.args.f.now in
    let E = Widened f c.args.expansions.now in
    let n = c.args.n in
    let delta : List ℕ = c.args.delta.now in
    let edges : List Edge = c.edges_into.new.into.items in
    let exits : List ExitId = c.exits_of_returns.new.into.items in
    let some = c.is_empty.ensures.some c.if-is_empty.false in
    let exits_are : (k : ExitId) → Contains exits k ↔ ((r : Edge) × Contains edges r × IsReturnFrom f k r) = λ k. subst (λ (ys : List Edge). Contains exits k ↔ ((r : Edge) × Contains ys r × IsReturnFrom f k r)) c.deref.ensures.value (c.in_ok-exits_of_returns.ensures k) in
    let p = c.args.pairs.now in
    let p1 = c.ask_all.new.pairs in
    let ms = c.args.methods.now.items in
    let ms1 = c.ask_all.new.methods.items in
    let step : IsAskedStep f E (Contains exits) ms1 p p1 c.args.tally.now c.ask_all.new.tally = subst (λ (ys : List ExitId). IsAskedStep f E (Contains ys) ms1 p p1 c.args.tally.now c.ask_all.new.tally) c.deref-2.ensures.value c.in_ok-ask_all.ensures.step in
    let goes : Goes f p1.found.items c.follow_from.new.found.items p1.queue.items c.follow_from.new.queue.items c.ask_all.new.tally c.follow_from.new.steps (FromOne (Follows f Full c.new-hands.result n delta) edges) = subst (λ (ys : List Edge). Goes f p1.found.items c.follow_from.new.found.items p1.queue.items c.follow_from.new.queue.items c.ask_all.new.tally c.follow_from.new.steps (FromOne (Follows f Full c.new-hands.result n delta) ys)) c.deref-3.ensures.value c.in_ok-follow_from.ensures.goes in
    followed f E ms ms1 p p1 _ c.args.tally.now c.ask_all.new.tally c.follow_from.new.steps n delta edges exits c.new-hands.result c.new-hands.ensures c.requires.pairs c.requires.delta.1 some c.in_ok-edges_into.ensures.edges exits_are step refl goes

pub returns-in_err-follow_from-clause-graphs : goal.returns-in_err-follow_from-clause-graphs
returns-in_err-follow_from-clause-graphs g c = (c.ask_all.ensures.graphs.0, g.met.G.Graphs.later_trans c.args.graphs.now c.edges_into.new.graphs c.ask_all.new.graphs c.edges_into.ensures.graphs.1 c.ask_all.ensures.graphs.1)

pub returns-clause-graphs : goal.returns-clause-graphs
returns-clause-graphs g c = (c.ask_all.ensures.graphs.0, g.met.G.Graphs.later_trans c.args.graphs.now c.edges_into.new.graphs c.ask_all.new.graphs c.edges_into.ensures.graphs.1 c.ask_all.ensures.graphs.1)

use Rattle.std.proofs.Common.{◌≡◌, ◌∙◌, ℕ, List, Some, Contains, sym, subst}
use Rattle.std.specs.Prelude.{◌↔◌, slice_get}
use Rattle.slicer_ids.specs.declared.ids.ExitId.{ExitId}
use Rattle.dep_form.specs.declared.node.Edge.{Edge}
use Rattle.tabulate.specs.Frames.{method_of}
use Rattle.tabulate.specs.Methods.{IsMet}
use Rattle.tabulate.proofs.Placing.{has_input}
use Rattle.widening.specs.Edges.{Widened, IsExitNear, IsOpened}
use Rattle.widening.specs.Pairs.{IsAskedStep}
use Rattle.widening.proofs.AskLaws.{pairs_on}
use Rattle.widening.proofs.CountLaws.{turns_then, turns_none, within_then, within_same}
use Rattle.widening.proofs.PrepareLaws.{near_low, near_needed, asked_done, asked_same, near_asked}
use Rattle.widening.proofs.marking.prepare.Goals as goal

pub meet_method-requires-clause-method : goal.meet_method-requires-clause-method
meet_method-requires-clause-method g c =
    let f = c.args.f.now in
    let i = has_input f c.args.n c.requires.node in
    (i.0, subst (λ (k : ℕ). slice_get f.inputs k ≡ Some (Some i.0)) (sym c.owner-m.ensures.is) i.1)

pub ask_all-requires-clause-exits : goal.ask_all-requires-clause-exits
ask_all-requires-clause-exits g c =
    let f = c.args.f.now in
    let E = Widened f c.args.expansions.now in
    let n = c.args.n in
    let edges : List Edge = c.edges_into.new.into.items in
    let exits : List ExitId = c.exits_near.new.into.items in
    let near : (d : ExitId) → Contains exits d ↔ IsExitNear f n edges d = λ d. subst (λ (ys : List Edge). Contains exits d ↔ IsExitNear f n ys d) c.deref.ensures.value (c.in_ok-exits_near.ensures d) in
    λ d k. near_low f n edges d ((near d).0 (subst (λ (ys : List ExitId). Contains ys d) c.deref-2.ensures.value k))

pub ask_all-requires-clause-pairs : goal.ask_all-requires-clause-pairs
ask_all-requires-clause-pairs g c = pairs_on c.args.f.now (Widened c.args.f.now c.args.expansions.now) c.args.methods.now.items c.meet_method.new.methods.items c.args.pairs.now c.meet_method.ensures.methods c.meet_method.ensures.kept c.requires.whole.pairs

pub run-requires-clause-pairs : goal.run-requires-clause-pairs
run-requires-clause-pairs g c = c.in_ok-ask_all.ensures.step.pairs

pub run-requires-clause-done : goal.run-requires-clause-done
run-requires-clause-done g c =
    let f = c.args.f.now in
    let E = Widened f c.args.expansions.now in
    let n = c.args.n in
    let edges : List Edge = c.edges_into.new.into.items in
    let exits : List ExitId = c.exits_near.new.into.items in
    let near : (d : ExitId) → Contains exits d ↔ IsExitNear f n edges d = λ d. subst (λ (ys : List Edge). Contains exits d ↔ IsExitNear f n ys d) c.deref.ensures.value (c.in_ok-exits_near.ensures d) in
    let p = c.args.pairs.now in
    let p1 = c.ask_all.new.pairs in
    let ms1 = c.ask_all.new.methods.items in
    let step : IsAskedStep f E (Contains exits) ms1 p p1 c.args.tally.now c.ask_all.new.tally = subst (λ (ys : List ExitId). IsAskedStep f E (Contains ys) ms1 p p1 c.args.tally.now c.ask_all.new.tally) c.deref-2.ensures.value c.in_ok-ask_all.ensures.step in
    asked_done f E n edges c.in_ok-edges_into.ensures.edges exits near ms1 p p1 c.args.tally.now c.ask_all.new.tally step c.requires.whole.done

pub returns-in_err-meet_method-clause-within : goal.returns-in_err-meet_method-clause-within
returns-in_err-meet_method-clause-within g c = λ seeds h need. within_same c.args.f.now c.args.expansions.now seeds c.args.methods.now.items c.args.pairs.now c.args.steps.now c.requires.whole.pairs need

pub returns-in_err-edges_into-clause-within : goal.returns-in_err-edges_into-clause-within
returns-in_err-edges_into-clause-within g c = λ seeds h need. within_same c.args.f.now c.args.expansions.now seeds c.args.methods.now.items c.args.pairs.now c.args.steps.now c.requires.whole.pairs need

pub returns-in_err-exits_near-clause-within : goal.returns-in_err-exits_near-clause-within
returns-in_err-exits_near-clause-within g c = λ seeds h need. within_same c.args.f.now c.args.expansions.now seeds c.args.methods.now.items c.args.pairs.now c.args.steps.now c.requires.whole.pairs need

pub returns-in_err-ask_all-clause-within : goal.returns-in_err-ask_all-clause-within
returns-in_err-ask_all-clause-within g c = λ seeds h need. within_same c.args.f.now c.args.expansions.now seeds c.args.methods.now.items c.args.pairs.now c.args.steps.now c.requires.whole.pairs need

pub returns-in_err-run-clause-within : goal.returns-in_err-run-clause-within
returns-in_err-run-clause-within g c = λ seeds h need.
    let f = c.args.f.now in
    let E = Widened f c.args.expansions.now in
    let n = c.args.n in
    let edges : List Edge = c.edges_into.new.into.items in
    let exits : List ExitId = c.exits_near.new.into.items in
    let near : (d : ExitId) → Contains exits d ↔ IsExitNear f n edges d = λ d. subst (λ (ys : List Edge). Contains exits d ↔ IsExitNear f n ys d) c.deref.ensures.value (c.in_ok-exits_near.ensures d) in
    let p = c.args.pairs.now in
    let p1 = c.ask_all.new.pairs in
    let ms1 = c.ask_all.new.methods.items in
    let step : IsAskedStep f E (Contains exits) ms1 p p1 c.args.tally.now c.ask_all.new.tally = subst (λ (ys : List ExitId). IsAskedStep f E (Contains ys) ms1 p p1 c.args.tally.now c.ask_all.new.tally) c.deref-2.ensures.value c.in_ok-ask_all.ensures.step in
    within_then f (IsOpened c.args.expansions.now) seeds p p1 c.args.steps.now c.args.steps.now c.run.new.steps (turns_none f p p1 c.args.steps.now (asked_same f E n edges c.in_ok-edges_into.ensures.edges exits near ms1 p p1 c.args.tally.now c.ask_all.new.tally step)) (c.run.ensures.within seeds (near_needed f E n edges c.in_ok-edges_into.ensures.edges exits near ms1 p p1 c.args.tally.now c.ask_all.new.tally step seeds h need))

pub returns-clause-within : goal.returns-clause-within
returns-clause-within g c = λ seeds h need.
    let f = c.args.f.now in
    let E = Widened f c.args.expansions.now in
    let n = c.args.n in
    let edges : List Edge = c.edges_into.new.into.items in
    let exits : List ExitId = c.exits_near.new.into.items in
    let near : (d : ExitId) → Contains exits d ↔ IsExitNear f n edges d = λ d. subst (λ (ys : List Edge). Contains exits d ↔ IsExitNear f n ys d) c.deref.ensures.value (c.in_ok-exits_near.ensures d) in
    let p = c.args.pairs.now in
    let p1 = c.ask_all.new.pairs in
    let ms1 = c.ask_all.new.methods.items in
    let step : IsAskedStep f E (Contains exits) ms1 p p1 c.args.tally.now c.ask_all.new.tally = subst (λ (ys : List ExitId). IsAskedStep f E (Contains ys) ms1 p p1 c.args.tally.now c.ask_all.new.tally) c.deref-2.ensures.value c.in_ok-ask_all.ensures.step in
    within_then f (IsOpened c.args.expansions.now) seeds p p1 c.args.steps.now c.args.steps.now c.run.new.steps (turns_none f p p1 c.args.steps.now (asked_same f E n edges c.in_ok-edges_into.ensures.edges exits near ms1 p p1 c.args.tally.now c.ask_all.new.tally step)) (c.run.ensures.within seeds (near_needed f E n edges c.in_ok-edges_into.ensures.edges exits near ms1 p p1 c.args.tally.now c.ask_all.new.tally step seeds h need))

pub returns-clause-needed : goal.returns-clause-needed
returns-clause-needed g c = λ seeds h need.
    let f = c.args.f.now in
    let E = Widened f c.args.expansions.now in
    let n = c.args.n in
    let edges : List Edge = c.edges_into.new.into.items in
    let exits : List ExitId = c.exits_near.new.into.items in
    let near : (d : ExitId) → Contains exits d ↔ IsExitNear f n edges d = λ d. subst (λ (ys : List Edge). Contains exits d ↔ IsExitNear f n ys d) c.deref.ensures.value (c.in_ok-exits_near.ensures d) in
    let p = c.args.pairs.now in
    let p1 = c.ask_all.new.pairs in
    let ms1 = c.ask_all.new.methods.items in
    let step : IsAskedStep f E (Contains exits) ms1 p p1 c.args.tally.now c.ask_all.new.tally = subst (λ (ys : List ExitId). IsAskedStep f E (Contains ys) ms1 p p1 c.args.tally.now c.ask_all.new.tally) c.deref-2.ensures.value c.in_ok-ask_all.ensures.step in
    c.in_ok-run.ensures.needed seeds (near_needed f E n edges c.in_ok-edges_into.ensures.edges exits near ms1 p p1 c.args.tally.now c.ask_all.new.tally step seeds h need)

pub returns-clause-turns : goal.returns-clause-turns
returns-clause-turns g c =
    let f = c.args.f.now in
    let E = Widened f c.args.expansions.now in
    let n = c.args.n in
    let edges : List Edge = c.edges_into.new.into.items in
    let exits : List ExitId = c.exits_near.new.into.items in
    let near : (d : ExitId) → Contains exits d ↔ IsExitNear f n edges d = λ d. subst (λ (ys : List Edge). Contains exits d ↔ IsExitNear f n ys d) c.deref.ensures.value (c.in_ok-exits_near.ensures d) in
    let p = c.args.pairs.now in
    let p1 = c.ask_all.new.pairs in
    let ms1 = c.ask_all.new.methods.items in
    let step : IsAskedStep f E (Contains exits) ms1 p p1 c.args.tally.now c.ask_all.new.tally = subst (λ (ys : List ExitId). IsAskedStep f E (Contains ys) ms1 p p1 c.args.tally.now c.ask_all.new.tally) c.deref-2.ensures.value c.in_ok-ask_all.ensures.step in
    turns_then f p p1 c.run.new.pairs c.args.steps.now c.args.steps.now c.run.new.steps (turns_none f p p1 c.args.steps.now (asked_same f E n edges c.in_ok-edges_into.ensures.edges exits near ms1 p p1 c.args.tally.now c.ask_all.new.tally step)) c.in_ok-run.ensures.turns

pub returns-clause-kept : goal.returns-clause-kept
returns-clause-kept g c = λ d k. c.in_ok-run.ensures.kept d (c.in_ok-ask_all.ensures.step.kept d k)

pub returns-clause-served : goal.returns-clause-served
returns-clause-served g c =
    let f = c.args.f.now in
    let E = Widened f c.args.expansions.now in
    let n = c.args.n in
    let edges : List Edge = c.edges_into.new.into.items in
    let exits : List ExitId = c.exits_near.new.into.items in
    let near : (d : ExitId) → Contains exits d ↔ IsExitNear f n edges d = λ d. subst (λ (ys : List Edge). Contains exits d ↔ IsExitNear f n ys d) c.deref.ensures.value (c.in_ok-exits_near.ensures d) in
    let p = c.args.pairs.now in
    let p1 = c.ask_all.new.pairs in
    let ms1 = c.ask_all.new.methods.items in
    let step : IsAskedStep f E (Contains exits) ms1 p p1 c.args.tally.now c.ask_all.new.tally = subst (λ (ys : List ExitId). IsAskedStep f E (Contains ys) ms1 p p1 c.args.tally.now c.ask_all.new.tally) c.deref-2.ensures.value c.in_ok-ask_all.ensures.step in
    let met = c.in_ok-meet_method.ensures.met in
    let m = method_of f n.0 in
    let here : IsMet c.meet_method.new.methods.items m = subst (λ (k : ℕ). IsMet c.meet_method.new.methods.items k) c.owner-m.ensures.is met in
    near_asked f E n edges c.in_ok-edges_into.ensures.edges exits near ms1 p p1 c.args.tally.now c.ask_all.new.tally step c.run.new.methods.items c.run.new.pairs.asked.items (here.0, c.run.ensures.methods.1 m here.0 (c.ask_all.ensures.methods.1 m here.0 here.1)) c.in_ok-run.ensures.kept

pub edges_into-requires-clause-graphs : goal.edges_into-requires-clause-graphs
edges_into-requires-clause-graphs g c = (c.meet_method.ensures.graphs.0, g.met.G.Graphs.later_facts c.args.graphs.now c.meet_method.new.graphs c.meet_method.ensures.graphs.1 ∙ c.requires.graphs.1)

pub ask_all-requires-clause-graphs : goal.ask_all-requires-clause-graphs
ask_all-requires-clause-graphs g c = (c.edges_into.ensures.graphs.0, g.met.G.Graphs.later_facts c.args.graphs.now c.edges_into.new.graphs (g.met.G.Graphs.later_trans c.args.graphs.now c.meet_method.new.graphs c.edges_into.new.graphs c.meet_method.ensures.graphs.1 c.edges_into.ensures.graphs.1) ∙ c.requires.graphs.1)

pub run-requires-clause-graphs : goal.run-requires-clause-graphs
run-requires-clause-graphs g c = (c.ask_all.ensures.graphs.0, g.met.G.Graphs.later_facts c.args.graphs.now c.ask_all.new.graphs (g.met.G.Graphs.later_trans c.args.graphs.now c.edges_into.new.graphs c.ask_all.new.graphs (g.met.G.Graphs.later_trans c.args.graphs.now c.meet_method.new.graphs c.edges_into.new.graphs c.meet_method.ensures.graphs.1 c.edges_into.ensures.graphs.1) c.ask_all.ensures.graphs.1) ∙ c.requires.graphs.1)

pub returns-in_err-edges_into-clause-graphs : goal.returns-in_err-edges_into-clause-graphs
returns-in_err-edges_into-clause-graphs g c = (c.edges_into.ensures.graphs.0, (g.met.G.Graphs.later_trans c.args.graphs.now c.meet_method.new.graphs c.edges_into.new.graphs c.meet_method.ensures.graphs.1 c.edges_into.ensures.graphs.1))

pub returns-in_err-exits_near-clause-graphs : goal.returns-in_err-exits_near-clause-graphs
returns-in_err-exits_near-clause-graphs g c = (c.edges_into.ensures.graphs.0, (g.met.G.Graphs.later_trans c.args.graphs.now c.meet_method.new.graphs c.edges_into.new.graphs c.meet_method.ensures.graphs.1 c.edges_into.ensures.graphs.1))

pub returns-in_err-ask_all-clause-graphs : goal.returns-in_err-ask_all-clause-graphs
returns-in_err-ask_all-clause-graphs g c = (c.ask_all.ensures.graphs.0, (g.met.G.Graphs.later_trans c.args.graphs.now c.edges_into.new.graphs c.ask_all.new.graphs (g.met.G.Graphs.later_trans c.args.graphs.now c.meet_method.new.graphs c.edges_into.new.graphs c.meet_method.ensures.graphs.1 c.edges_into.ensures.graphs.1) c.ask_all.ensures.graphs.1))

pub returns-in_err-run-clause-graphs : goal.returns-in_err-run-clause-graphs
returns-in_err-run-clause-graphs g c = (c.run.ensures.graphs.0, (g.met.G.Graphs.later_trans c.args.graphs.now c.ask_all.new.graphs c.run.new.graphs (g.met.G.Graphs.later_trans c.args.graphs.now c.edges_into.new.graphs c.ask_all.new.graphs (g.met.G.Graphs.later_trans c.args.graphs.now c.meet_method.new.graphs c.edges_into.new.graphs c.meet_method.ensures.graphs.1 c.edges_into.ensures.graphs.1) c.ask_all.ensures.graphs.1) c.run.ensures.graphs.1))

pub returns-clause-graphs : goal.returns-clause-graphs
returns-clause-graphs g c = (c.run.ensures.graphs.0, (g.met.G.Graphs.later_trans c.args.graphs.now c.ask_all.new.graphs c.run.new.graphs (g.met.G.Graphs.later_trans c.args.graphs.now c.edges_into.new.graphs c.ask_all.new.graphs (g.met.G.Graphs.later_trans c.args.graphs.now c.meet_method.new.graphs c.edges_into.new.graphs c.meet_method.ensures.graphs.1 c.edges_into.ensures.graphs.1) c.ask_all.ensures.graphs.1) c.run.ensures.graphs.1))

pub returns-in_err-ask_all-clause-methods : goal.returns-in_err-ask_all-clause-methods
returns-in_err-ask_all-clause-methods g c = (c.ask_all.ensures.methods.0, λ m x h. c.ask_all.ensures.methods.1 m x (c.meet_method.ensures.kept m x h))

pub returns-in_err-run-clause-methods : goal.returns-in_err-run-clause-methods
returns-in_err-run-clause-methods g c = (c.run.ensures.methods.0, λ m x h. c.run.ensures.methods.1 m x (c.ask_all.ensures.methods.1 m x (c.meet_method.ensures.kept m x h)))

pub returns-clause-methods : goal.returns-clause-methods
returns-clause-methods g c = (c.run.ensures.methods.0, λ m x h. c.run.ensures.methods.1 m x (c.ask_all.ensures.methods.1 m x (c.meet_method.ensures.kept m x h)))

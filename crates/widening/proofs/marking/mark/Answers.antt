use Rattle.std.proofs.Common.{◌∙◌, List}
use Rattle.slicer_ids.specs.declared.ids.NodeId.{NodeId}
use Rattle.thin_slice.specs.Marks.{found}
use Rattle.widening.specs.Edges.{Widened, IsOpened}
use Rattle.widening.specs.Marks.{AreLeading}
use Rattle.widening.proofs.CountLaws.{turns_then, within_then, within_of}
use Rattle.widening.proofs.MarkLaws.{front_then, marking_from, leading_over}
use Rattle.widening.proofs.marking.mark.Goals as goal

pub walk-requires-clause-graphs : goal.walk-requires-clause-graphs
walk-requires-clause-graphs g c = (c.step_again.ensures.graphs.0, g.met.G.Graphs.later_facts c.args.graphs.now c.step_again.new.graphs c.step_again.ensures.graphs.1 ∙ c.requires.graphs.1)

pub walk-requires-clause-marking : goal.walk-requires-clause-marking
walk-requires-clause-marking g c =
    let f = c.args.f.now in
    let x = c.args.expansions.now in
    let E = Widened f x in
    let phase = c.args.phase in
    let a = c.in_ok-step_again.ensures in
    let p = c.args.pairs.now in
    let p1 = c.step_again.new.pairs in
    let ms = c.args.methods.now.items in
    let ms1 = c.step_again.new.methods.items in
    let nodes = found c.args.marks.now in
    let nodes1 = found c.step_again.new.marks in
    let o = c.in_ok-mark_over.ensures in
    let nodes2 = found c.mark_over.new.marks in
    let lead2 : (seeds : List NodeId) → AreLeading E seeds phase nodes → AreLeading E seeds phase nodes2 = λ seeds lead. leading_over f E phase seeds ms1 p1 nodes1 nodes2 a.whole o.grown (a.leading seeds lead) in
    marking_from f E phase c.args.nodes.now ms ms1 p p1 c.args.taken nodes nodes1 nodes2 a.whole c.step_again.ensures.methods.1 a.kept c.requires.begun a.stepped o.grown

pub returns-in_err-mark_over-clause-within : goal.returns-in_err-mark_over-clause-within
returns-in_err-mark_over-clause-within g c = λ seeds lead need.
    let f = c.args.f.now in
    let x = c.args.expansions.now in
    let E = Widened f x in
    let phase = c.args.phase in
    let a = c.in_ok-step_again.ensures in
    let p = c.args.pairs.now in
    let p1 = c.step_again.new.pairs in
    let ms = c.args.methods.now.items in
    let ms1 = c.step_again.new.methods.items in
    let nodes = found c.args.marks.now in
    let nodes1 = found c.step_again.new.marks in
    within_of f x seeds ms1 p1 a.whole.pairs (a.needed seeds lead need) p c.args.steps.now c.step_again.new.steps a.turns

pub returns-in_err-walk-clause-within : goal.returns-in_err-walk-clause-within
returns-in_err-walk-clause-within g c = λ seeds lead need.
    let f = c.args.f.now in
    let x = c.args.expansions.now in
    let E = Widened f x in
    let phase = c.args.phase in
    let a = c.in_ok-step_again.ensures in
    let p = c.args.pairs.now in
    let p1 = c.step_again.new.pairs in
    let ms = c.args.methods.now.items in
    let ms1 = c.step_again.new.methods.items in
    let nodes = found c.args.marks.now in
    let nodes1 = found c.step_again.new.marks in
    let o = c.in_ok-mark_over.ensures in
    let nodes2 = found c.mark_over.new.marks in
    let lead2 : (seeds : List NodeId) → AreLeading E seeds phase nodes → AreLeading E seeds phase nodes2 = λ seeds lead. leading_over f E phase seeds ms1 p1 nodes1 nodes2 a.whole o.grown (a.leading seeds lead) in
    within_then f (IsOpened x) seeds p p1 c.args.steps.now c.step_again.new.steps c.walk.new.steps a.turns (c.walk.ensures.within seeds (lead2 seeds lead) (a.needed seeds lead need))

pub returns-in_err-walk-clause-graphs : goal.returns-in_err-walk-clause-graphs
returns-in_err-walk-clause-graphs g c = (c.walk.ensures.graphs.0, g.met.G.Graphs.later_trans c.args.graphs.now c.step_again.new.graphs c.walk.new.graphs c.step_again.ensures.graphs.1 c.walk.ensures.graphs.1)

pub returns-clause-graphs : goal.returns-clause-graphs
returns-clause-graphs g c = (c.walk.ensures.graphs.0, g.met.G.Graphs.later_trans c.args.graphs.now c.step_again.new.graphs c.walk.new.graphs c.step_again.ensures.graphs.1 c.walk.ensures.graphs.1)

pub returns-in_err-walk-clause-methods : goal.returns-in_err-walk-clause-methods
returns-in_err-walk-clause-methods g c = (c.walk.ensures.methods.0, λ m y h. c.walk.ensures.methods.1 m y (c.step_again.ensures.methods.1 m y h))

pub returns-clause-methods : goal.returns-clause-methods
returns-clause-methods g c = (c.walk.ensures.methods.0, λ m y h. c.walk.ensures.methods.1 m y (c.step_again.ensures.methods.1 m y h))

pub returns-clause-within : goal.returns-clause-within
returns-clause-within g c = λ seeds lead need.
    let f = c.args.f.now in
    let x = c.args.expansions.now in
    let E = Widened f x in
    let phase = c.args.phase in
    let a = c.in_ok-step_again.ensures in
    let p = c.args.pairs.now in
    let p1 = c.step_again.new.pairs in
    let ms = c.args.methods.now.items in
    let ms1 = c.step_again.new.methods.items in
    let nodes = found c.args.marks.now in
    let nodes1 = found c.step_again.new.marks in
    let o = c.in_ok-mark_over.ensures in
    let nodes2 = found c.mark_over.new.marks in
    let lead2 : (seeds : List NodeId) → AreLeading E seeds phase nodes → AreLeading E seeds phase nodes2 = λ seeds lead. leading_over f E phase seeds ms1 p1 nodes1 nodes2 a.whole o.grown (a.leading seeds lead) in
    within_then f (IsOpened x) seeds p p1 c.args.steps.now c.step_again.new.steps c.walk.new.steps a.turns (c.walk.ensures.within seeds (lead2 seeds lead) (a.needed seeds lead need))

pub returns-clause-kept : goal.returns-clause-kept
returns-clause-kept g c = λ d k. c.in_ok-walk.ensures.kept d (c.in_ok-step_again.ensures.kept d k)

pub returns-clause-needed : goal.returns-clause-needed
returns-clause-needed g c = λ seeds lead need.
    let f = c.args.f.now in
    let x = c.args.expansions.now in
    let E = Widened f x in
    let phase = c.args.phase in
    let a = c.in_ok-step_again.ensures in
    let p = c.args.pairs.now in
    let p1 = c.step_again.new.pairs in
    let ms = c.args.methods.now.items in
    let ms1 = c.step_again.new.methods.items in
    let nodes = found c.args.marks.now in
    let nodes1 = found c.step_again.new.marks in
    let o = c.in_ok-mark_over.ensures in
    let nodes2 = found c.mark_over.new.marks in
    let lead2 : (seeds : List NodeId) → AreLeading E seeds phase nodes → AreLeading E seeds phase nodes2 = λ seeds lead. leading_over f E phase seeds ms1 p1 nodes1 nodes2 a.whole o.grown (a.leading seeds lead) in
    c.in_ok-walk.ensures.needed seeds (lead2 seeds lead) (a.needed seeds lead need)

pub returns-clause-turns : goal.returns-clause-turns
returns-clause-turns g c = turns_then c.args.f.now c.args.pairs.now c.step_again.new.pairs c.walk.new.pairs c.args.steps.now c.step_again.new.steps c.walk.new.steps c.in_ok-step_again.ensures.turns c.in_ok-walk.ensures.turns

pub returns-clause-leading : goal.returns-clause-leading
returns-clause-leading g c = λ seeds lead.
    let f = c.args.f.now in
    let x = c.args.expansions.now in
    let E = Widened f x in
    let phase = c.args.phase in
    let a = c.in_ok-step_again.ensures in
    let p = c.args.pairs.now in
    let p1 = c.step_again.new.pairs in
    let ms = c.args.methods.now.items in
    let ms1 = c.step_again.new.methods.items in
    let nodes = found c.args.marks.now in
    let nodes1 = found c.step_again.new.marks in
    let o = c.in_ok-mark_over.ensures in
    let nodes2 = found c.mark_over.new.marks in
    let lead2 : (seeds : List NodeId) → AreLeading E seeds phase nodes → AreLeading E seeds phase nodes2 = λ seeds lead. leading_over f E phase seeds ms1 p1 nodes1 nodes2 a.whole o.grown (a.leading seeds lead) in
    c.in_ok-walk.ensures.leading seeds (lead2 seeds lead)

pub returns-clause-front : goal.returns-clause-front
returns-clause-front g c =
    let f = c.args.f.now in
    let x = c.args.expansions.now in
    let E = Widened f x in
    let phase = c.args.phase in
    let a = c.in_ok-step_again.ensures in
    let p = c.args.pairs.now in
    let p1 = c.step_again.new.pairs in
    let ms = c.args.methods.now.items in
    let ms1 = c.step_again.new.methods.items in
    let nodes = found c.args.marks.now in
    let nodes1 = found c.step_again.new.marks in
    let o = c.in_ok-mark_over.ensures in
    let nodes2 = found c.mark_over.new.marks in
    let lead2 : (seeds : List NodeId) → AreLeading E seeds phase nodes → AreLeading E seeds phase nodes2 = λ seeds lead. leading_over f E phase seeds ms1 p1 nodes1 nodes2 a.whole o.grown (a.leading seeds lead) in
    front_then nodes nodes2 (found c.walk.new.marks) (front_then nodes nodes1 nodes2 a.stepped.front o.grown.front) c.in_ok-walk.ensures.front

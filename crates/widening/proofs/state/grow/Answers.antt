use Rattle.std.proofs.Common.{◌∙◌, ℕ, List, [], length, sym, subst}
use Rattle.std.proofs.lemmas.List.{append-nil}
use Rattle.slicer_ids.specs.declared.ids.NodeId.{NodeId}
use Rattle.thin_slice.specs.declared.needs.Phase.TheVariants.{Up, Down}
use Rattle.thin_slice.specs.Marks.{found}
use Rattle.widening.specs.Edges.{Widened, IsOpened}
use Rattle.widening.specs.Pairs.{AreNeeded, KeepsMet, KeepsAsked}
use Rattle.widening.specs.Counts.{AreTurns}
use Rattle.widening.specs.Marks.{AreLeading, IsBegun}
use Rattle.widening.specs.States.{IsGrowing}
use Rattle.widening.proofs.CountLaws.{turns_none, turns_then, within_then, within_same}
use Rattle.widening.proofs.MarkLaws.{in_more}
use Rattle.widening.proofs.GrowLaws.{marking_on, begun_on, leads_added}
use Rattle.widening.proofs.state.grow.Goals as goal

pub follow_all_again-requires-clause-nodes : goal.follow_all_again-requires-clause-nodes
follow_all_again-requires-clause-nodes g c = c.requires.growing.1.nodes

pub follow_all_again-requires-clause-expansions : goal.follow_all_again-requires-clause-expansions
follow_all_again-requires-clause-expansions g c = c.requires.growing.1.expansions

pub follow_all_again-requires-clause-pairs : goal.follow_all_again-requires-clause-pairs
follow_all_again-requires-clause-pairs g c = c.requires.growing.1.pairs

pub run-requires-clause-expansions : goal.run-requires-clause-expansions
run-requires-clause-expansions g c = c.requires.growing.1.expansions

pub run-requires-clause-pairs : goal.run-requires-clause-pairs
run-requires-clause-pairs g c = c.in_ok-follow_all_again.ensures.followed.pairs

pub run-requires-clause-done : goal.run-requires-clause-done
run-requires-clause-done g c = c.in_ok-follow_all_again.ensures.followed.done c.requires.growing.1.done

pub mark-requires-clause-nodes : goal.mark-requires-clause-nodes
mark-requires-clause-nodes g c = c.requires.growing.1.nodes

pub mark-requires-clause-expansions : goal.mark-requires-clause-expansions
mark-requires-clause-expansions g c = c.requires.growing.1.expansions

pub mark-requires-clause-marks : goal.mark-requires-clause-marks
mark-requires-clause-marks g c = c.requires.growing.1.up

pub mark-requires-clause-begun : goal.mark-requires-clause-begun
mark-requires-clause-begun g c =
    let f = c.args.f.now in
    let s = c.args.state.now in
    let x = s.expansions in
    let E = Widened f x in
    let p0 = s.pairs in
    let m0 = c.args.methods.now.items in
    let p1 = c.follow_all_again.new.pairs in
    let m1 = c.follow_all_again.new.methods.items in
    let a1 = c.in_ok-follow_all_again.ensures.followed in
    let n1 : (seeds : List NodeId) → IsGrowing f seeds c.args.nodes.now c.args.ups m0 s → AreNeeded f E seeds p1.asked.items = λ seeds b. a1.needed seeds b.needed in
    let u1 : AreTurns f p0 p1 c.args.steps.now c.args.steps.now = turns_none f p0 p1 c.args.steps.now a1.same in
    let p2 = c.run.new.pairs in
    let m2 = c.run.new.methods.items in
    let a2 = c.in_ok-run.ensures in
    let n2 : (seeds : List NodeId) → IsGrowing f seeds c.args.nodes.now c.args.ups m0 s → AreNeeded f E seeds p2.asked.items = λ seeds b. a2.needed seeds (n1 seeds b) in
    let u2 : AreTurns f p0 p2 c.args.steps.now c.run.new.steps = turns_then f p0 p1 p2 c.args.steps.now c.args.steps.now c.run.new.steps u1 a2.turns in
    let met2 : KeepsMet m0 m2 = λ m y h. c.run.ensures.methods.1 m y (c.follow_all_again.ensures.methods.1 m y h) in
    let kept2 : KeepsAsked p0.asked.items p2.asked.items = λ d k. a2.kept d (a1.kept d k) in
    begun_on f E Up m0 m2 p0.asked.items p2.asked.items met2 kept2 c.args.nodes.now c.args.ups (found s.up) (found s.up) ([], sym (append-nil (found s.up))) c.requires.growing.1.up_begun

pub add_marked-requires-clause-marks : goal.add_marked-requires-clause-marks
add_marked-requires-clause-marks g c = c.requires.growing.1.down

pub mark-requires-2-clause-nodes : goal.mark-requires-2-clause-nodes
mark-requires-2-clause-nodes g c = c.requires.growing.1.nodes

pub mark-requires-2-clause-expansions : goal.mark-requires-2-clause-expansions
mark-requires-2-clause-expansions g c = c.requires.growing.1.expansions

pub mark-requires-2-clause-begun : goal.mark-requires-2-clause-begun
mark-requires-2-clause-begun g c =
    let f = c.args.f.now in
    let s = c.args.state.now in
    let x = s.expansions in
    let E = Widened f x in
    let p0 = s.pairs in
    let m0 = c.args.methods.now.items in
    let p1 = c.follow_all_again.new.pairs in
    let m1 = c.follow_all_again.new.methods.items in
    let a1 = c.in_ok-follow_all_again.ensures.followed in
    let n1 : (seeds : List NodeId) → IsGrowing f seeds c.args.nodes.now c.args.ups m0 s → AreNeeded f E seeds p1.asked.items = λ seeds b. a1.needed seeds b.needed in
    let u1 : AreTurns f p0 p1 c.args.steps.now c.args.steps.now = turns_none f p0 p1 c.args.steps.now a1.same in
    let p2 = c.run.new.pairs in
    let m2 = c.run.new.methods.items in
    let a2 = c.in_ok-run.ensures in
    let n2 : (seeds : List NodeId) → IsGrowing f seeds c.args.nodes.now c.args.ups m0 s → AreNeeded f E seeds p2.asked.items = λ seeds b. a2.needed seeds (n1 seeds b) in
    let u2 : AreTurns f p0 p2 c.args.steps.now c.run.new.steps = turns_then f p0 p1 p2 c.args.steps.now c.args.steps.now c.run.new.steps u1 a2.turns in
    let met2 : KeepsMet m0 m2 = λ m y h. c.run.ensures.methods.1 m y (c.follow_all_again.ensures.methods.1 m y h) in
    let kept2 : KeepsAsked p0.asked.items p2.asked.items = λ d k. a2.kept d (a1.kept d k) in
    let p3 = c.mark.new.pairs in
    let m3 = c.mark.new.methods.items in
    let a3 = c.in_ok-mark.ensures in
    let n3 : (seeds : List NodeId) → IsGrowing f seeds c.args.nodes.now c.args.ups m0 s → AreNeeded f E seeds p3.asked.items = λ seeds b. a3.needed seeds b.up_leads (n2 seeds b) in
    let u3 : AreTurns f p0 p3 c.args.steps.now c.mark.new.steps = turns_then f p0 p2 p3 c.args.steps.now c.run.new.steps c.mark.new.steps u2 a3.turns in
    let met3 : KeepsMet m0 m3 = λ m y h. c.mark.ensures.methods.1 m y (met2 m y h) in
    let kept3 : KeepsAsked p0.asked.items p3.asked.items = λ d k. a3.kept d (kept2 d k) in
    let ups1 = found c.mark.new.marks in
    let downs0 = found s.down in
    let downs1 = found c.add_marked.new.marks in
    let lead1 : (seeds : List NodeId) → IsGrowing f seeds c.args.nodes.now c.args.ups m0 s → AreLeading E seeds Down downs1 = λ seeds b. leads_added E seeds ups1 downs0 downs1 c.add_marked.ensures.grown (a3.leading seeds b.up_leads) b.down_leads in
    begun_on f E Down m0 m3 p0.asked.items p3.asked.items met3 kept3 c.args.nodes.now s.down.count downs0 downs1 c.add_marked.ensures.grown.front
    (subst (λ (k : ℕ). IsBegun f E Down c.args.nodes.now m0 p0.asked.items k downs0) c.requires.growing.1.down.set.count c.requires.growing.1.down_begun)

pub returns-in_err-follow_all_again-clause-within : goal.returns-in_err-follow_all_again-clause-within
returns-in_err-follow_all_again-clause-within g c = λ seeds b.
    let f = c.args.f.now in
    let s = c.args.state.now in
    let x = s.expansions in
    let E = Widened f x in
    let p0 = s.pairs in
    let m0 = c.args.methods.now.items in
    within_same f x seeds m0 p0 c.args.steps.now b.pairs b.needed

pub returns-in_err-run-clause-within : goal.returns-in_err-run-clause-within
returns-in_err-run-clause-within g c = λ seeds b.
    let f = c.args.f.now in
    let s = c.args.state.now in
    let x = s.expansions in
    let E = Widened f x in
    let p0 = s.pairs in
    let m0 = c.args.methods.now.items in
    let p1 = c.follow_all_again.new.pairs in
    let m1 = c.follow_all_again.new.methods.items in
    let a1 = c.in_ok-follow_all_again.ensures.followed in
    let n1 : (seeds : List NodeId) → IsGrowing f seeds c.args.nodes.now c.args.ups m0 s → AreNeeded f E seeds p1.asked.items = λ seeds b. a1.needed seeds b.needed in
    let u1 : AreTurns f p0 p1 c.args.steps.now c.args.steps.now = turns_none f p0 p1 c.args.steps.now a1.same in
    within_then f (IsOpened x) seeds p0 p1 c.args.steps.now c.args.steps.now c.run.new.steps u1 (c.run.ensures.within seeds (n1 seeds b))

pub returns-in_err-mark-clause-within : goal.returns-in_err-mark-clause-within
returns-in_err-mark-clause-within g c = λ seeds b.
    let f = c.args.f.now in
    let s = c.args.state.now in
    let x = s.expansions in
    let E = Widened f x in
    let p0 = s.pairs in
    let m0 = c.args.methods.now.items in
    let p1 = c.follow_all_again.new.pairs in
    let m1 = c.follow_all_again.new.methods.items in
    let a1 = c.in_ok-follow_all_again.ensures.followed in
    let n1 : (seeds : List NodeId) → IsGrowing f seeds c.args.nodes.now c.args.ups m0 s → AreNeeded f E seeds p1.asked.items = λ seeds b. a1.needed seeds b.needed in
    let u1 : AreTurns f p0 p1 c.args.steps.now c.args.steps.now = turns_none f p0 p1 c.args.steps.now a1.same in
    let p2 = c.run.new.pairs in
    let m2 = c.run.new.methods.items in
    let a2 = c.in_ok-run.ensures in
    let n2 : (seeds : List NodeId) → IsGrowing f seeds c.args.nodes.now c.args.ups m0 s → AreNeeded f E seeds p2.asked.items = λ seeds b. a2.needed seeds (n1 seeds b) in
    let u2 : AreTurns f p0 p2 c.args.steps.now c.run.new.steps = turns_then f p0 p1 p2 c.args.steps.now c.args.steps.now c.run.new.steps u1 a2.turns in
    let met2 : KeepsMet m0 m2 = λ m y h. c.run.ensures.methods.1 m y (c.follow_all_again.ensures.methods.1 m y h) in
    let kept2 : KeepsAsked p0.asked.items p2.asked.items = λ d k. a2.kept d (a1.kept d k) in
    within_then f (IsOpened x) seeds p0 p2 c.args.steps.now c.run.new.steps c.mark.new.steps u2 (c.mark.ensures.within seeds b.up_leads (n2 seeds b))

pub returns-in_err-mark-2-clause-within : goal.returns-in_err-mark-2-clause-within
returns-in_err-mark-2-clause-within g c = λ seeds b.
    let f = c.args.f.now in
    let s = c.args.state.now in
    let x = s.expansions in
    let E = Widened f x in
    let p0 = s.pairs in
    let m0 = c.args.methods.now.items in
    let p1 = c.follow_all_again.new.pairs in
    let m1 = c.follow_all_again.new.methods.items in
    let a1 = c.in_ok-follow_all_again.ensures.followed in
    let n1 : (seeds : List NodeId) → IsGrowing f seeds c.args.nodes.now c.args.ups m0 s → AreNeeded f E seeds p1.asked.items = λ seeds b. a1.needed seeds b.needed in
    let u1 : AreTurns f p0 p1 c.args.steps.now c.args.steps.now = turns_none f p0 p1 c.args.steps.now a1.same in
    let p2 = c.run.new.pairs in
    let m2 = c.run.new.methods.items in
    let a2 = c.in_ok-run.ensures in
    let n2 : (seeds : List NodeId) → IsGrowing f seeds c.args.nodes.now c.args.ups m0 s → AreNeeded f E seeds p2.asked.items = λ seeds b. a2.needed seeds (n1 seeds b) in
    let u2 : AreTurns f p0 p2 c.args.steps.now c.run.new.steps = turns_then f p0 p1 p2 c.args.steps.now c.args.steps.now c.run.new.steps u1 a2.turns in
    let met2 : KeepsMet m0 m2 = λ m y h. c.run.ensures.methods.1 m y (c.follow_all_again.ensures.methods.1 m y h) in
    let kept2 : KeepsAsked p0.asked.items p2.asked.items = λ d k. a2.kept d (a1.kept d k) in
    let p3 = c.mark.new.pairs in
    let m3 = c.mark.new.methods.items in
    let a3 = c.in_ok-mark.ensures in
    let n3 : (seeds : List NodeId) → IsGrowing f seeds c.args.nodes.now c.args.ups m0 s → AreNeeded f E seeds p3.asked.items = λ seeds b. a3.needed seeds b.up_leads (n2 seeds b) in
    let u3 : AreTurns f p0 p3 c.args.steps.now c.mark.new.steps = turns_then f p0 p2 p3 c.args.steps.now c.run.new.steps c.mark.new.steps u2 a3.turns in
    let met3 : KeepsMet m0 m3 = λ m y h. c.mark.ensures.methods.1 m y (met2 m y h) in
    let kept3 : KeepsAsked p0.asked.items p3.asked.items = λ d k. a3.kept d (kept2 d k) in
    let ups1 = found c.mark.new.marks in
    let downs0 = found s.down in
    let downs1 = found c.add_marked.new.marks in
    let lead1 : (seeds : List NodeId) → IsGrowing f seeds c.args.nodes.now c.args.ups m0 s → AreLeading E seeds Down downs1 = λ seeds b. leads_added E seeds ups1 downs0 downs1 c.add_marked.ensures.grown (a3.leading seeds b.up_leads) b.down_leads in
    within_then f (IsOpened x) seeds p0 p3 c.args.steps.now c.mark.new.steps c.mark-2.new.steps u3 (c.mark-2.ensures.within seeds (lead1 seeds b) (n3 seeds b))

pub returns-clause-within : goal.returns-clause-within
returns-clause-within g c = λ seeds b.
    let f = c.args.f.now in
    let s = c.args.state.now in
    let x = s.expansions in
    let E = Widened f x in
    let p0 = s.pairs in
    let m0 = c.args.methods.now.items in
    let p1 = c.follow_all_again.new.pairs in
    let m1 = c.follow_all_again.new.methods.items in
    let a1 = c.in_ok-follow_all_again.ensures.followed in
    let n1 : (seeds : List NodeId) → IsGrowing f seeds c.args.nodes.now c.args.ups m0 s → AreNeeded f E seeds p1.asked.items = λ seeds b. a1.needed seeds b.needed in
    let u1 : AreTurns f p0 p1 c.args.steps.now c.args.steps.now = turns_none f p0 p1 c.args.steps.now a1.same in
    let p2 = c.run.new.pairs in
    let m2 = c.run.new.methods.items in
    let a2 = c.in_ok-run.ensures in
    let n2 : (seeds : List NodeId) → IsGrowing f seeds c.args.nodes.now c.args.ups m0 s → AreNeeded f E seeds p2.asked.items = λ seeds b. a2.needed seeds (n1 seeds b) in
    let u2 : AreTurns f p0 p2 c.args.steps.now c.run.new.steps = turns_then f p0 p1 p2 c.args.steps.now c.args.steps.now c.run.new.steps u1 a2.turns in
    let met2 : KeepsMet m0 m2 = λ m y h. c.run.ensures.methods.1 m y (c.follow_all_again.ensures.methods.1 m y h) in
    let kept2 : KeepsAsked p0.asked.items p2.asked.items = λ d k. a2.kept d (a1.kept d k) in
    let p3 = c.mark.new.pairs in
    let m3 = c.mark.new.methods.items in
    let a3 = c.in_ok-mark.ensures in
    let n3 : (seeds : List NodeId) → IsGrowing f seeds c.args.nodes.now c.args.ups m0 s → AreNeeded f E seeds p3.asked.items = λ seeds b. a3.needed seeds b.up_leads (n2 seeds b) in
    let u3 : AreTurns f p0 p3 c.args.steps.now c.mark.new.steps = turns_then f p0 p2 p3 c.args.steps.now c.run.new.steps c.mark.new.steps u2 a3.turns in
    let met3 : KeepsMet m0 m3 = λ m y h. c.mark.ensures.methods.1 m y (met2 m y h) in
    let kept3 : KeepsAsked p0.asked.items p3.asked.items = λ d k. a3.kept d (kept2 d k) in
    let ups1 = found c.mark.new.marks in
    let downs0 = found s.down in
    let downs1 = found c.add_marked.new.marks in
    let lead1 : (seeds : List NodeId) → IsGrowing f seeds c.args.nodes.now c.args.ups m0 s → AreLeading E seeds Down downs1 = λ seeds b. leads_added E seeds ups1 downs0 downs1 c.add_marked.ensures.grown (a3.leading seeds b.up_leads) b.down_leads in
    within_then f (IsOpened x) seeds p0 p3 c.args.steps.now c.mark.new.steps c.mark-2.new.steps u3 (c.mark-2.ensures.within seeds (lead1 seeds b) (n3 seeds b))

pub returns-clause-turns : goal.returns-clause-turns
returns-clause-turns g c =
    let f = c.args.f.now in
    let s = c.args.state.now in
    let x = s.expansions in
    let E = Widened f x in
    let p0 = s.pairs in
    let m0 = c.args.methods.now.items in
    let p1 = c.follow_all_again.new.pairs in
    let m1 = c.follow_all_again.new.methods.items in
    let a1 = c.in_ok-follow_all_again.ensures.followed in
    let n1 : (seeds : List NodeId) → IsGrowing f seeds c.args.nodes.now c.args.ups m0 s → AreNeeded f E seeds p1.asked.items = λ seeds b. a1.needed seeds b.needed in
    let u1 : AreTurns f p0 p1 c.args.steps.now c.args.steps.now = turns_none f p0 p1 c.args.steps.now a1.same in
    let p2 = c.run.new.pairs in
    let m2 = c.run.new.methods.items in
    let a2 = c.in_ok-run.ensures in
    let n2 : (seeds : List NodeId) → IsGrowing f seeds c.args.nodes.now c.args.ups m0 s → AreNeeded f E seeds p2.asked.items = λ seeds b. a2.needed seeds (n1 seeds b) in
    let u2 : AreTurns f p0 p2 c.args.steps.now c.run.new.steps = turns_then f p0 p1 p2 c.args.steps.now c.args.steps.now c.run.new.steps u1 a2.turns in
    let met2 : KeepsMet m0 m2 = λ m y h. c.run.ensures.methods.1 m y (c.follow_all_again.ensures.methods.1 m y h) in
    let kept2 : KeepsAsked p0.asked.items p2.asked.items = λ d k. a2.kept d (a1.kept d k) in
    let p3 = c.mark.new.pairs in
    let m3 = c.mark.new.methods.items in
    let a3 = c.in_ok-mark.ensures in
    let n3 : (seeds : List NodeId) → IsGrowing f seeds c.args.nodes.now c.args.ups m0 s → AreNeeded f E seeds p3.asked.items = λ seeds b. a3.needed seeds b.up_leads (n2 seeds b) in
    let u3 : AreTurns f p0 p3 c.args.steps.now c.mark.new.steps = turns_then f p0 p2 p3 c.args.steps.now c.run.new.steps c.mark.new.steps u2 a3.turns in
    let met3 : KeepsMet m0 m3 = λ m y h. c.mark.ensures.methods.1 m y (met2 m y h) in
    let kept3 : KeepsAsked p0.asked.items p3.asked.items = λ d k. a3.kept d (kept2 d k) in
    let p4 = c.mark-2.new.pairs in
    let m4 = c.mark-2.new.methods.items in
    let a4 = c.in_ok-mark-2.ensures in
    let downs2 = found c.mark-2.new.marks in
    turns_then f p0 p3 p4 c.args.steps.now c.mark.new.steps c.mark-2.new.steps u3 a4.turns

pub returns-clause-sliced : goal.returns-clause-sliced
returns-clause-sliced g c = λ seeds b.
    let f = c.args.f.now in
    let s = c.args.state.now in
    let x = s.expansions in
    let E = Widened f x in
    let p0 = s.pairs in
    let m0 = c.args.methods.now.items in
    let p1 = c.follow_all_again.new.pairs in
    let m1 = c.follow_all_again.new.methods.items in
    let a1 = c.in_ok-follow_all_again.ensures.followed in
    let n1 : (seeds : List NodeId) → IsGrowing f seeds c.args.nodes.now c.args.ups m0 s → AreNeeded f E seeds p1.asked.items = λ seeds b. a1.needed seeds b.needed in
    let u1 : AreTurns f p0 p1 c.args.steps.now c.args.steps.now = turns_none f p0 p1 c.args.steps.now a1.same in
    let p2 = c.run.new.pairs in
    let m2 = c.run.new.methods.items in
    let a2 = c.in_ok-run.ensures in
    let n2 : (seeds : List NodeId) → IsGrowing f seeds c.args.nodes.now c.args.ups m0 s → AreNeeded f E seeds p2.asked.items = λ seeds b. a2.needed seeds (n1 seeds b) in
    let u2 : AreTurns f p0 p2 c.args.steps.now c.run.new.steps = turns_then f p0 p1 p2 c.args.steps.now c.args.steps.now c.run.new.steps u1 a2.turns in
    let met2 : KeepsMet m0 m2 = λ m y h. c.run.ensures.methods.1 m y (c.follow_all_again.ensures.methods.1 m y h) in
    let kept2 : KeepsAsked p0.asked.items p2.asked.items = λ d k. a2.kept d (a1.kept d k) in
    let p3 = c.mark.new.pairs in
    let m3 = c.mark.new.methods.items in
    let a3 = c.in_ok-mark.ensures in
    let n3 : (seeds : List NodeId) → IsGrowing f seeds c.args.nodes.now c.args.ups m0 s → AreNeeded f E seeds p3.asked.items = λ seeds b. a3.needed seeds b.up_leads (n2 seeds b) in
    let u3 : AreTurns f p0 p3 c.args.steps.now c.mark.new.steps = turns_then f p0 p2 p3 c.args.steps.now c.run.new.steps c.mark.new.steps u2 a3.turns in
    let met3 : KeepsMet m0 m3 = λ m y h. c.mark.ensures.methods.1 m y (met2 m y h) in
    let kept3 : KeepsAsked p0.asked.items p3.asked.items = λ d k. a3.kept d (kept2 d k) in
    let ups1 = found c.mark.new.marks in
    let downs0 = found s.down in
    let downs1 = found c.add_marked.new.marks in
    let lead1 : (seeds : List NodeId) → IsGrowing f seeds c.args.nodes.now c.args.ups m0 s → AreLeading E seeds Down downs1 = λ seeds b. leads_added E seeds ups1 downs0 downs1 c.add_marked.ensures.grown (a3.leading seeds b.up_leads) b.down_leads in
    let p4 = c.mark-2.new.pairs in
    let m4 = c.mark-2.new.methods.items in
    let a4 = c.in_ok-mark-2.ensures in
    let downs2 = found c.mark-2.new.marks in
    record {
      expansions = b.expansions;
      pairs = a4.whole;
      needed = a4.needed seeds (lead1 seeds b) (n3 seeds b);
      there = λ n k. in_more (found s.up) ups1 a3.front n (b.there n k);
      up = a3.marks;
      up_leads = a3.leading seeds b.up_leads;
      up_steps = marking_on f E Up m3 m4 p3.asked.items p4.asked.items c.mark-2.ensures.methods.1 a4.kept (length ups1) ups1 a3.marking;
      ups = λ n k. in_more downs1 downs2 a4.front n (c.add_marked.ensures.grown.all n k);
      down = a4.marks;
      down_leads = a4.leading seeds (lead1 seeds b);
      down_steps = a4.marking;
    }

pub run-requires-clause-graphs : goal.run-requires-clause-graphs
run-requires-clause-graphs g c = (c.follow_all_again.ensures.graphs.0, g.met.G.Graphs.later_facts c.args.graphs.now c.follow_all_again.new.graphs (c.follow_all_again.ensures.graphs.1) ∙ c.requires.graphs.1)

pub mark-requires-clause-graphs : goal.mark-requires-clause-graphs
mark-requires-clause-graphs g c = (c.run.ensures.graphs.0, g.met.G.Graphs.later_facts c.args.graphs.now c.run.new.graphs (g.met.G.Graphs.later_trans c.args.graphs.now c.follow_all_again.new.graphs c.run.new.graphs (c.follow_all_again.ensures.graphs.1) c.run.ensures.graphs.1) ∙ c.requires.graphs.1)

pub mark-requires-2-clause-graphs : goal.mark-requires-2-clause-graphs
mark-requires-2-clause-graphs g c = (c.mark.ensures.graphs.0, g.met.G.Graphs.later_facts c.args.graphs.now c.mark.new.graphs (g.met.G.Graphs.later_trans c.args.graphs.now c.run.new.graphs c.mark.new.graphs (g.met.G.Graphs.later_trans c.args.graphs.now c.follow_all_again.new.graphs c.run.new.graphs (c.follow_all_again.ensures.graphs.1) c.run.ensures.graphs.1) c.mark.ensures.graphs.1) ∙ c.requires.graphs.1)

pub returns-in_err-run-clause-graphs : goal.returns-in_err-run-clause-graphs
returns-in_err-run-clause-graphs g c = (c.run.ensures.graphs.0, g.met.G.Graphs.later_trans c.args.graphs.now c.follow_all_again.new.graphs c.run.new.graphs (c.follow_all_again.ensures.graphs.1) c.run.ensures.graphs.1)

pub returns-in_err-mark-clause-graphs : goal.returns-in_err-mark-clause-graphs
returns-in_err-mark-clause-graphs g c = (c.mark.ensures.graphs.0, g.met.G.Graphs.later_trans c.args.graphs.now c.run.new.graphs c.mark.new.graphs (g.met.G.Graphs.later_trans c.args.graphs.now c.follow_all_again.new.graphs c.run.new.graphs (c.follow_all_again.ensures.graphs.1) c.run.ensures.graphs.1) c.mark.ensures.graphs.1)

pub returns-in_err-mark-2-clause-graphs : goal.returns-in_err-mark-2-clause-graphs
returns-in_err-mark-2-clause-graphs g c = (c.mark-2.ensures.graphs.0, g.met.G.Graphs.later_trans c.args.graphs.now c.mark.new.graphs c.mark-2.new.graphs (g.met.G.Graphs.later_trans c.args.graphs.now c.run.new.graphs c.mark.new.graphs (g.met.G.Graphs.later_trans c.args.graphs.now c.follow_all_again.new.graphs c.run.new.graphs (c.follow_all_again.ensures.graphs.1) c.run.ensures.graphs.1) c.mark.ensures.graphs.1) c.mark-2.ensures.graphs.1)

pub returns-clause-graphs : goal.returns-clause-graphs
returns-clause-graphs g c = (c.mark-2.ensures.graphs.0, g.met.G.Graphs.later_trans c.args.graphs.now c.mark.new.graphs c.mark-2.new.graphs (g.met.G.Graphs.later_trans c.args.graphs.now c.run.new.graphs c.mark.new.graphs (g.met.G.Graphs.later_trans c.args.graphs.now c.follow_all_again.new.graphs c.run.new.graphs (c.follow_all_again.ensures.graphs.1) c.run.ensures.graphs.1) c.mark.ensures.graphs.1) c.mark-2.ensures.graphs.1)

use Rattle.std.proofs.Common.{◌≡◌, ◌∙◌, ℕ, [], length, sym, subst, arith}
use Rattle.std.proofs.lemmas.List.{append-nil}
use Rattle.thin_slice.specs.Marks.{found}
use Rattle.thin_slice.proofs.Phasing.{contains_at}
use Rattle.widening.specs.Edges.{Widened, IsOpened}
use Rattle.widening.specs.Marks.{IsMarking}
use Rattle.widening.proofs.FollowLaws.{same_none}
use Rattle.widening.proofs.CountLaws.{turns_none, turns_then, within_then, within_of}
use Rattle.widening.proofs.MarkLaws.{front_then, leading_grown, marking_goes_on, marked_low}
use Rattle.widening.proofs.marking.walk.Goals as goal

pub loop-next-init : goal.loop-next-init
loop-next-init g c = record {
  graphs = (c.requires.graphs.0, g.met.G.Graphs.later_refl c.args.graphs.now);
  methods = (c.requires.whole.pairs.methods, λ m x h. h);
  whole = c.requires.whole;
  kept = λ d k. k;
  needed = λ seeds lead need. need;
  turns = turns_none c.args.f.now c.args.pairs.now c.args.pairs.now c.args.steps.now (same_none c.args.f.now (Widened c.args.f.now c.args.expansions.now) c.args.pairs.now);
  marks = c.requires.marks;
  leading = λ seeds lead. lead;
  front = ([], sym (append-nil (found c.args.marks.now)));
  marking = c.requires.marking;
}

pub loop-next-preserved : goal.loop-next-preserved
loop-next-preserved g c =
    let l = c.loop-next in
    let e = c.in_ok-step_back.ensures in
    let f = c.args.f.now in
    let E = Widened f c.args.expansions.now in
    let n = c.at-n.result in
    let old = found l.marks in
    let new = found c.step_back.new.marks in
    let here = contains_at old l.next n c.at-n.ensures in
    record {
      graphs = (c.step_back.ensures.graphs.0, g.met.G.Graphs.later_trans c.args.graphs.now l.graphs c.step_back.new.graphs l.invariant.graphs.1 c.step_back.ensures.graphs.1);
      methods = (c.step_back.ensures.methods.0, λ m x h. c.step_back.ensures.methods.1 m x (l.invariant.methods.1 m x h));
      whole = e.whole;
      kept = λ d k. e.kept d (l.invariant.kept d k);
      needed = λ seeds lead need. e.needed seeds (l.invariant.leading seeds lead n here) (l.invariant.needed seeds lead need);
      turns = turns_then f c.args.pairs.now l.pairs c.step_back.new.pairs c.args.steps.now l.steps c.step_back.new.steps l.invariant.turns e.turns;
      marks = e.marks;
      leading = λ seeds lead. leading_grown E c.args.phase seeds n old new e.grown here (l.invariant.leading seeds lead);
      front = front_then (found c.args.marks.now) old new l.invariant.front e.grown.front;
      marking = marking_goes_on f E c.args.phase l.methods.items c.step_back.new.methods.items l.pairs.asked.items c.step_back.new.pairs.asked.items c.step_back.ensures.methods.1 e.kept l.next n old new c.at-n.ensures e.grown e.served l.invariant.marking;
    }

pub step_back-requires-clause-graphs : goal.step_back-requires-clause-graphs
step_back-requires-clause-graphs g c = (c.loop-next.invariant.graphs.0, g.met.G.Graphs.later_facts c.args.graphs.now c.loop-next.graphs c.loop-next.invariant.graphs.1 ∙ c.requires.graphs.1)

pub step_back-requires-clause-node : goal.step_back-requires-clause-node
step_back-requires-clause-node g c = marked_low c.args.f.now c.loop-next.marks c.loop-next.invariant.marks c.at-n.result (contains_at (found c.loop-next.marks) c.loop-next.next c.at-n.result c.at-n.ensures)

pub returns-in_err-step_back-clause-within : goal.returns-in_err-step_back-clause-within
returns-in_err-step_back-clause-within g c = λ seeds lead need.
    let l = c.loop-next in
    let here = contains_at (found l.marks) l.next c.at-n.result c.at-n.ensures in
    within_then c.args.f.now (IsOpened c.args.expansions.now) seeds c.args.pairs.now l.pairs c.args.steps.now l.steps c.step_back.new.steps l.invariant.turns (c.step_back.ensures.within seeds (l.invariant.leading seeds lead c.at-n.result here) (l.invariant.needed seeds lead need))

pub returns-clause-within : goal.returns-clause-within
returns-clause-within g c = λ seeds lead need.
    let l = c.loop-next in
    within_of c.args.f.now c.args.expansions.now seeds l.methods.items l.pairs l.invariant.whole.pairs (l.invariant.needed seeds lead need) c.args.pairs.now c.args.steps.now l.steps l.invariant.turns

pub returns-clause-marking : goal.returns-clause-marking
returns-clause-marking g c =
    let l = c.loop-next in
    let end : l.next ≡ length (found l.marks) = omega (arith, c.loop-next-test.false, l.invariant.marks.set.count, l.invariant.marking.within) in
    subst (λ (k : ℕ). IsMarking c.args.f.now (Widened c.args.f.now c.args.expansions.now) c.args.phase l.methods.items l.pairs.asked.items k (found l.marks)) end l.invariant.marking

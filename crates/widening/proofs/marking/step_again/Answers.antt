use Rattle.std.proofs.Common.{◌∙◌, List, subst}
use Rattle.std.proofs.lemmas.List.{take_all}
use Rattle.std.proofs.lemmas.List.Elements.{Contains-get_or}
use Rattle.slicer_ids.specs.declared.ids.NodeId.{NodeId}
use Rattle.thin_slice.specs.Marks.{found}
use Rattle.widening.specs.Edges.{Widened, IsOpened}
use Rattle.widening.specs.Marks.{AreStepped}
use Rattle.widening.proofs.FollowLaws.{same_none}
use Rattle.widening.proofs.CountLaws.{turns_none, turns_then, within_then, within_of}
use Rattle.widening.proofs.MarkLaws.{stepped_none, stepped_more}
use Rattle.widening.proofs.marking.step_again.Goals as goal

pub loop-node-init : goal.loop-node-init
loop-node-init g c = record {
  graphs = (c.requires.graphs.0, g.met.G.Graphs.later_refl c.args.graphs.now);
  methods = (c.requires.whole.pairs.methods, λ m x h. h);
  whole = c.requires.whole;
  kept = λ d k. k;
  needed = λ seeds lead need. need;
  turns = turns_none c.args.f.now c.args.pairs.now c.args.pairs.now c.args.steps.now (same_none c.args.f.now (Widened c.args.f.now c.args.expansions.now) c.args.pairs.now);
  marks = c.requires.marks;
  leading = λ seeds lead. lead;
  stepped = stepped_none (Widened c.args.f.now c.args.expansions.now) c.args.phase c.args.nodes.now (found c.args.marks.now);
}

pub loop-node-preserved : goal.loop-node-preserved
loop-node-preserved g c =
    let l = c.loop-node in
    let e = c.in_ok-step_if_marked.ensures in
    let none : NodeId = record { 0 = 0 } in
    record {
      graphs = (c.step_if_marked.ensures.graphs.0, g.met.G.Graphs.later_trans c.args.graphs.now l.graphs c.step_if_marked.new.graphs l.invariant.graphs.1 c.step_if_marked.ensures.graphs.1);
      methods = (c.step_if_marked.ensures.methods.0, λ m x h. c.step_if_marked.ensures.methods.1 m x (l.invariant.methods.1 m x h));
      whole = e.whole;
      kept = λ d k. e.kept d (l.invariant.kept d k);
      needed = λ seeds lead need. e.needed seeds (l.invariant.leading seeds lead) (l.invariant.needed seeds lead need);
      turns = turns_then c.args.f.now c.args.pairs.now l.pairs c.step_if_marked.new.pairs c.args.steps.now l.steps c.step_if_marked.new.steps l.invariant.turns e.turns;
      marks = e.marks;
      leading = λ seeds lead. e.leading seeds (l.invariant.leading seeds lead);
      stepped = stepped_more (Widened c.args.f.now c.args.expansions.now) c.args.phase c.args.nodes.now l.node-index none (found c.args.marks.now) (found l.marks) (found c.step_if_marked.new.marks) c.loop-node-test.true e.front e.steps l.invariant.stepped;
    }

pub step_if_marked-requires-clause-graphs : goal.step_if_marked-requires-clause-graphs
step_if_marked-requires-clause-graphs g c = (c.loop-node.invariant.graphs.0, g.met.G.Graphs.later_facts c.args.graphs.now c.loop-node.graphs c.loop-node.invariant.graphs.1 ∙ c.requires.graphs.1)

pub step_if_marked-requires-clause-node : goal.step_if_marked-requires-clause-node
step_if_marked-requires-clause-node g c = c.requires.nodes _ (Contains-get_or c.args.nodes.now c.loop-node.node-index _ c.loop-node-test.true)

pub returns-in_err-step_if_marked-clause-within : goal.returns-in_err-step_if_marked-clause-within
returns-in_err-step_if_marked-clause-within g c = λ seeds lead need.
    let l = c.loop-node in
    within_then c.args.f.now (IsOpened c.args.expansions.now) seeds c.args.pairs.now l.pairs c.args.steps.now l.steps c.step_if_marked.new.steps l.invariant.turns (c.step_if_marked.ensures.within seeds (l.invariant.leading seeds lead) (l.invariant.needed seeds lead need))

pub returns-clause-within : goal.returns-clause-within
returns-clause-within g c = λ seeds lead need.
    let l = c.loop-node in
    within_of c.args.f.now c.args.expansions.now seeds l.methods.items l.pairs l.invariant.whole.pairs (l.invariant.needed seeds lead need) c.args.pairs.now c.args.steps.now l.steps l.invariant.turns

pub returns-clause-stepped : goal.returns-clause-stepped
returns-clause-stepped g c = subst (λ (xs : List NodeId). AreStepped (Widened c.args.f.now c.args.expansions.now) c.args.phase xs (found c.args.marks.now) (found c.loop-node.marks)) (take_all c.loop-node.node-index c.args.nodes.now c.loop-node-test.false) c.loop-node.invariant.stepped

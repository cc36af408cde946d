use Rattle.std.proofs.Common.{◌≡◌, ◌∙◌, ◌+◌, List, Contains, get_or, take, refl, sym, subst, inl, inr, arith}
use Rattle.std.proofs.lemmas.List.{take_all}
use Rattle.std.proofs.lemmas.List.Elements.{Contains-get_or}
use Rattle.slicer_ids.specs.declared.ids.ExitId.{ExitId}
use Rattle.tabulate.proofs.Collecting.{take_to, take_from}
use Rattle.widening.specs.Edges.{Widened}
use Rattle.widening.specs.Pairs.{IsAskedStep}
use Rattle.widening.proofs.AskLaws.{step_none, step_then}
use Rattle.widening.proofs.asking.ask_all.Goals as goal

pub loop-exit-init : goal.loop-exit-init
loop-exit-init g c = record {
  graphs = (c.requires.graphs.0, g.met.G.Graphs.later_refl c.args.graphs.now);
  methods = (c.requires.pairs.methods, λ m x h. h);
  step = step_none c.args.f.now (Widened c.args.f.now c.args.expansions.now) _ c.args.methods.now.items c.args.pairs.now c.args.tally.now c.requires.pairs (λ d k. absurd (omega (arith, k.1)));
  turns = refl;
}

pub loop-exit-preserved : goal.loop-exit-preserved
loop-exit-preserved g c =
    let l = c.loop-exit in
    let none : ExitId = record { 0 = 0 } in
    let here : ExitId = get_or c.args.exits.now l.exit-index none in
    record {
      graphs = (c.ask.ensures.graphs.0, g.met.G.Graphs.later_trans c.args.graphs.now l.graphs c.ask.new.graphs l.invariant.graphs.1 c.ask.ensures.graphs.1);
      methods = (c.ask.ensures.methods.0, λ m x h. c.ask.ensures.methods.1 m x (l.invariant.methods.1 m x h));
      step = step_then c.args.f.now (Widened c.args.f.now c.args.expansions.now) (Contains (take l.exit-index c.args.exits.now)) (λ d. d ≡ here) (Contains (take (l.exit-index + 1) c.args.exits.now)) l.methods.items c.ask.new.methods.items c.args.pairs.now l.pairs c.ask.new.pairs c.args.tally.now l.tally c.ask.new.tally
          (λ d k. elim (take_to c.args.exits.now l.exit-index none d c.loop-exit-test.true k) [ inl o ↦ inl o | inr is ↦ inr (sym is) ])
          (λ d k. take_from c.args.exits.now l.exit-index none d c.loop-exit-test.true (elim k [ inl o ↦ inl o | inr is ↦ inr (sym is) ])) l.invariant.step c.in_ok-ask.ensures.step;
      turns = omega (arith, l.invariant.turns, c.ask.ensures.turns);
    }

pub ask-requires-clause-graphs : goal.ask-requires-clause-graphs
ask-requires-clause-graphs g c = (c.loop-exit.invariant.graphs.0, g.met.G.Graphs.later_facts c.args.graphs.now c.loop-exit.graphs c.loop-exit.invariant.graphs.1 ∙ c.requires.graphs.1)

pub ask-requires-clause-exit : goal.ask-requires-clause-exit
ask-requires-clause-exit g c = c.requires.exits _ (Contains-get_or c.args.exits.now c.loop-exit.exit-index _ c.loop-exit-test.true)

pub ask-requires-clause-pairs : goal.ask-requires-clause-pairs
ask-requires-clause-pairs g c = c.loop-exit.invariant.step.pairs

pub returns-clause-step : goal.returns-clause-step
returns-clause-step g c =
    let l = c.loop-exit in
    subst (λ (xs : List ExitId). IsAskedStep c.args.f.now (Widened c.args.f.now c.args.expansions.now) (Contains xs) l.methods.items c.args.pairs.now l.pairs c.args.tally.now l.tally) (take_all l.exit-index c.args.exits.now c.loop-exit-test.false) l.invariant.step

use Rattle.std.proofs.Common.{◌≡◌, ◌∙◌, ◌+◌, List, Contains, get_or, take, refl, sym, subst, inl, inr, arith}
use Rattle.std.proofs.lemmas.List.{take_all}
use Rattle.std.proofs.lemmas.List.Elements.{Contains-get_or}
use Rattle.slicer_ids.specs.declared.ids.ExitId.{ExitId}
use Rattle.tabulate.specs.States.{MeetStep}
use Rattle.tabulate.proofs.Collecting.{take_to}
use Rattle.tabulate.proofs.MeetLaws.{step_none, step_then, demands_more}
use Rattle.tabulate.specs.Tables.{IsFirst}
use Rattle.tabulate.proofs.meeting.meet_all.Goals as goal

pub loop-exit-init : goal.loop-exit-init
loop-exit-init g c = record {
  graphs = (c.requires.graphs.0, g.met.G.Graphs.later_refl c.args.graphs.now);
  rows = (c.requires.rows.0, g.met.R.Rows.later_refl c.args.rows.now);
  step = step_none c.args.f.now c.args.mode (IsFirst c.args.e c.args.more.now) _ _ c.args.methods.now.items c.args.hands.now c.args.asked.now.items c.args.found.now.items c.args.queue.now.items c.args.steps.now _ c.requires.holds (λ d k. absurd (omega (arith, k.1)));
  turns = refl;
}

pub loop-exit-preserved : goal.loop-exit-preserved
loop-exit-preserved g c =
    let l = c.loop-exit in
    let m = c.in_ok-meet.ensures in
    let none : ExitId = record { 0 = 0 } in
    record {
      graphs = (c.meet.ensures.graphs.0, g.met.G.Graphs.later_trans c.args.graphs.now l.graphs c.meet.new.graphs l.invariant.graphs.1 c.meet.ensures.graphs.1);
      rows = (c.meet.ensures.rows.0, g.met.R.Rows.later_trans c.args.rows.now l.rows c.meet.new.rows l.invariant.rows.1 c.meet.ensures.rows.1);
      step = step_then c.args.f.now c.args.mode (IsFirst c.args.e c.args.more.now) (λ d. g.R.Rows.surely c.args.rows.now d c.args.mode) (λ d. g.R.Rows.surely l.rows d c.args.mode) (λ d. g.R.Rows.surely l.rows d c.args.mode) (λ d. g.R.Rows.surely c.meet.new.rows d c.args.mode)
          (Contains (take l.exit-index c.args.exits.now)) (λ d. d ≡ get_or c.args.exits.now l.exit-index none) (Contains (take (l.exit-index + 1) c.args.exits.now)) l.methods.items c.meet.new.methods.items c.args.hands.now l.hands c.meet.new.hands c.args.asked.now.items l.asked.items c.meet.new.asked.items
          c.args.found.now.items l.found.items c.meet.new.found.items c.args.queue.now.items l.queue.items c.meet.new.queue.items c.args.steps.now l.steps c.meet.new.steps
          (λ d k. g.met.R.Rows.later_surely c.args.rows.now l.rows d c.args.mode l.invariant.rows.1 k)
          (λ d k. elim (take_to c.args.exits.now l.exit-index none d c.loop-exit-test.true k) [ inl o ↦ inl o | inr is ↦ inr (sym is) ]) l.invariant.step m.step;
      turns = omega (arith, l.invariant.turns, c.meet.ensures.turns);
    }

pub meet-requires-clause-graphs : goal.meet-requires-clause-graphs
meet-requires-clause-graphs g c = (c.loop-exit.invariant.graphs.0, g.met.G.Graphs.later_facts c.args.graphs.now c.loop-exit.graphs c.loop-exit.invariant.graphs.1 ∙ c.requires.graphs.1)

pub meet-requires-clause-rows : goal.meet-requires-clause-rows
meet-requires-clause-rows g c = (c.loop-exit.invariant.rows.0, g.met.R.Rows.later_facts c.args.rows.now c.loop-exit.rows c.loop-exit.invariant.rows.1 ∙ c.requires.rows.1)

pub meet-requires-clause-exit : goal.meet-requires-clause-exit
meet-requires-clause-exit g c = (c.requires.demanded _ (Contains-get_or c.args.exits.now c.loop-exit.exit-index _ c.loop-exit-test.true)).0

pub meet-requires-clause-demanded : goal.meet-requires-clause-demanded
meet-requires-clause-demanded g c = demands_more c.args.f.now c.args.mode (IsFirst c.args.e c.args.more.now) c.args.asked.now.items c.loop-exit.asked.items c.loop-exit.invariant.step.meets.more _ (c.requires.demanded _ (Contains-get_or c.args.exits.now c.loop-exit.exit-index _ c.loop-exit-test.true)).1

pub meet-requires-clause-holds : goal.meet-requires-clause-holds
meet-requires-clause-holds g c = c.loop-exit.invariant.step.holds

pub returns-clause-step : goal.returns-clause-step
returns-clause-step g c =
    let l = c.loop-exit in
    subst (λ (xs : List ExitId). MeetStep c.args.f.now c.args.mode (IsFirst c.args.e c.args.more.now) (λ d. g.R.Rows.surely c.args.rows.now d c.args.mode) (λ d. g.R.Rows.surely l.rows d c.args.mode) (Contains xs) l.methods.items c.args.hands.now l.hands c.args.asked.now.items l.asked.items c.args.found.now.items l.found.items c.args.queue.now.items l.queue.items c.args.steps.now l.steps)
    (take_all l.exit-index c.args.exits.now c.loop-exit-test.false) l.invariant.step

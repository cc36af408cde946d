use Rattle.std.proofs.Common.{◌≡◌, ◌∙◌, Ok, false, ap, refl, sym, subst}
use Rattle.std.specs.Prelude.{◌↔◌, Contains}
use Rattle.slicer_ids.specs.declared.ids.NodeId.{NodeId}
use Rattle.summary_memo.specs.Memo.{view_of}
use Rattle.thin_slice.specs.Walks.{IsAllFetched, ModeSlice, nodes_of, seeds_of}
use Rattle.session_walk.specs.Knowledge.{Sees, KnowsRows}
use Rattle.session_walk.proofs.Going.{all_kept, keeps_all, knows_all, not_both, rows_again}
use Rattle.session_walk.proofs.walking.walk_on.Goals as goal

pub returns-in_err-step-clause-keeps : goal.returns-in_err-step-clause-keeps
returns-in_err-step-clause-keeps g c = keeps_all c.args.pass.now c.loop.pass c.step.new.pass c.loop.invariant.keeps c.in_err-step.ensures.keeps

pub returns-in_err-step-clause-knows : goal.returns-in_err-step-clause-knows
returns-in_err-step-clause-knows g c = knows_all (view_of c.args.seat.now) (view_of c.loop.seat) (view_of c.step.new.seat) c.loop.invariant.knows c.in_err-step.ensures.knows

pub returns-in_err-step-clause-had : goal.returns-in_err-step-clause-had
returns-in_err-step-clause-had g c = λ all.
    let had = c.in_err-step.ensures.had (all_kept c.args.f.now c.args.mode c.args.pass.now c.loop.pass (view_of c.args.seat.now) (view_of c.loop.seat) (seeds_of c.args.walk.now) (seeds_of c.loop.walk)
    c.loop.invariant.keeps c.loop.invariant.knows c.loop.invariant.seeds all) in
    absurd (not_both c.in_err-step.field-0.0 false had.0)

pub loop-preserved : goal.loop-preserved
loop-preserved g c =
    let s = c.in_ok-step.ensures in
    let before = c.loop.invariant in
    record {
      pass = s.pass;
      inputs = s.inputs;
      keeps = keeps_all c.args.pass.now c.loop.pass c.step.new.pass before.keeps s.keeps;
      seat = s.seat;
      knows = knows_all (view_of c.args.seat.now) (view_of c.loop.seat) (view_of c.step.new.seat) before.knows s.knows;
      walking = s.walking;
      seeds = s.seeds ∙ before.seeds;
      served = s.served;
      last = s.last;
      had = λ all. (s.had (all_kept c.args.f.now c.args.mode c.args.pass.now c.loop.pass (view_of c.args.seat.now) (view_of c.loop.seat) (seeds_of c.args.walk.now) (seeds_of c.loop.walk) before.keeps before.knows before.seeds all)).1
          ∙ before.had all;
      rows = λ has. s.rows (rows_again c.args.f.now c.args.mode (view_of c.args.seat.now) (view_of c.loop.seat) (seeds_of c.args.walk.now) (seeds_of c.loop.walk) before.knows before.seeds has)
          ∙ before.rows has;
    }

pub returns-clause-keeps : goal.returns-clause-keeps
returns-clause-keeps g c = keeps_all c.args.pass.now c.loop.pass c.step.new.pass c.loop.invariant.keeps c.in_ok-step.ensures.keeps

pub returns-clause-knows : goal.returns-clause-knows
returns-clause-knows g c = knows_all (view_of c.args.seat.now) (view_of c.loop.seat) (view_of c.step.new.seat) c.loop.invariant.knows c.in_ok-step.ensures.knows

pub returns-clause-slice : goal.returns-clause-slice
returns-clause-slice g c =
    subst (λ s. (n : NodeId) → Contains (nodes_of c.step.new.walk) n ↔ ModeSlice c.args.f.now c.args.mode s n) c.loop.invariant.seeds (c.in_ok-step.ensures.slice (ap Ok c.if-branch.false))

pub returns-clause-had : goal.returns-clause-had
returns-clause-had g c = λ all. (
  refl,
  (c.in_ok-step.ensures.had (all_kept c.args.f.now c.args.mode c.args.pass.now c.loop.pass (view_of c.args.seat.now) (view_of c.loop.seat) (seeds_of c.args.walk.now) (seeds_of c.loop.walk)
      c.loop.invariant.keeps c.loop.invariant.knows c.loop.invariant.seeds all)).1 ∙ c.loop.invariant.had all,
)

pub returns-in_err-step-clause-rows : goal.returns-in_err-step-clause-rows
returns-in_err-step-clause-rows g c = λ has.
    c.in_err-step.ensures.rows (rows_again c.args.f.now c.args.mode (view_of c.args.seat.now) (view_of c.loop.seat) (seeds_of c.args.walk.now) (seeds_of c.loop.walk)
    c.loop.invariant.knows c.loop.invariant.seeds has)
    ∙ c.loop.invariant.rows has

pub returns-clause-rows : goal.returns-clause-rows
returns-clause-rows g c = λ has.
    c.in_ok-step.ensures.rows (rows_again c.args.f.now c.args.mode (view_of c.args.seat.now) (view_of c.loop.seat) (seeds_of c.args.walk.now) (seeds_of c.loop.walk)
    c.loop.invariant.knows c.loop.invariant.seeds has)
    ∙ c.loop.invariant.rows has

use Rattle.std.proofs.Common.{◌≡◌, ◌∙◌, ℕ, List, sym, subst}
use Rattle.std.proofs.lemmas.Option.{slice_get_within}
use Rattle.slicer_ids.specs.declared.ids.ExitId.{ExitId}
use Rattle.tabulate.specs.Methods.{IsMet}
use Rattle.tabulate.specs.States.{MeetStep}
use Rattle.tabulate.proofs.MeetLaws.{holds_on, step_put, step_asked, match_some, match_none}
use Rattle.tabulate.specs.Tables.{IsFirst}
use Rattle.tabulate.proofs.meeting.meet_new.Goals as goal

pub returns-in_ok-add-in-Some-clause-step : goal.returns-in_ok-add-in-Some-clause-step
returns-in_ok-add-in-Some-clause-step g c =
    let p = c.args.f.now in
    let mode = c.args.mode in
    let x = c.requires.exit in
    let ms = c.args.methods.now.items in
    let h = c.args.hands.now in
    let ts = c.args.found.now.items in
    let row = match_some _ _ c.in_ok-row.field-0 c.in-Some.row c.in-Some.is c.in_ok-row.ensures.row in
    let s = holds_on p mode (IsFirst c.args.e c.args.more.now) (λ d. g.R.Rows.surely c.args.rows.now d mode) (λ d. g.R.Rows.surely c.copy_hand.new.rows d mode) (λ d k. g.met.R.Rows.later_surely c.args.rows.now c.copy_hand.new.rows d mode c.copy_hand.ensures.rows.1 k) ms ms c.requires.holds.methods (λ k y m. m) h c.args.asked.now.items ts c.args.queue.now.items c.requires.holds in
    step_put p mode (IsFirst c.args.e c.args.more.now) _ (λ d. g.R.Rows.surely c.copy_hand.new.rows d mode) ms h c.args.asked.now.items ts c.args.queue.now.items c.args.steps.now c.add.new.self c.args.exit x.0 s x.1 (subst (λ (k : ℕ). IsMet ms k) (sym x.2.1) c.requires.met) c.in-Some.row.items c.in_ok-add-in-Some.ensures row.1 row.0 c.requires.not_asked c.requires.no_hand

pub returns-in_ok-ask_for-in-None-clause-step : goal.returns-in_ok-ask_for-in-None-clause-step
returns-in_ok-ask_for-in-None-clause-step g c =
    let p = c.args.f.now in
    let mode = c.args.mode in
    let x = c.requires.exit in
    let ms = c.args.methods.now.items in
    let h = c.args.hands.now in
    let ts = c.args.found.now.items in
    let asked = c.args.asked.now.items in
    let Had : ExitId → Type 0 = λ d. g.R.Rows.surely c.args.rows.now d mode in
    let Has : ExitId → Type 0 = λ d. g.R.Rows.surely c.copy_hand.new.rows d mode in
    let none = match_none _ _ c.in_ok-row.field-0 c.in-None.is c.in_ok-row.ensures.row in
    let s = holds_on p mode (IsFirst c.args.e c.args.more.now) Had Has (λ d k. g.met.R.Rows.later_surely c.args.rows.now c.copy_hand.new.rows d mode c.copy_hand.ensures.rows.1 k) ms ms c.requires.holds.methods (λ k y m. m) h asked ts c.args.queue.now.items c.requires.holds in
    let e = c.in_ok-ask_for-in-None.ensures in
    subst (λ (xs : List ExitId). MeetStep p mode (IsFirst c.args.e c.args.more.now) Had Has (λ d. d ≡ c.args.exit) ms h h asked xs ts c.ask_for.new.found.items c.args.queue.now.items c.ask_for.new.queue.items c.args.steps.now c.ask_for.new.steps) (sym e.asked)
    (step_asked p mode (IsFirst c.args.e c.args.more.now) Had Has ms h asked ts c.args.queue.now.items c.args.steps.now c.ask_for.new.found.items c.ask_for.new.queue.items c.ask_for.new.steps c.args.exit x.0 s x.1 (subst (λ (k : ℕ). IsMet ms k) (sym x.2.1) c.requires.met) (slice_get_within p.exits c.args.exit.0 x.0 x.1)
    c.requires.demanded c.requires.not_asked c.requires.no_hand e.goes (λ m ne. e.lens m (λ is. ne (is ∙ sym x.2.1))) none)

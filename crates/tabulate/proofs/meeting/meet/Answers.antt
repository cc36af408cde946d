use Rattle.std.proofs.Common.{◌≡◌, ◌∙◌, ℕ, inl, inr, sym, subst}
use Rattle.std.proofs.lemmas.Bool.{false≢true}
use Rattle.std.specs.Prelude.{slice_get, Some}
use Rattle.slicer_ids.specs.declared.ids.ExitId.{ExitId}
use Rattle.tabulate.specs.Methods.{IsMet}
use Rattle.tabulate.specs.States.{IsKnown}
use Rattle.tabulate.proofs.Placing.{has_input}
use Rattle.tabulate.proofs.ModeEdges.{exit_low}
use Rattle.tabulate.proofs.MeetLaws.{holds_on, step_none, asked_by_pair}
use Rattle.tabulate.specs.Tables.{IsFirst}
use Rattle.tabulate.proofs.meeting.meet.Goals as goal

pub returns-then-has-clause-step : goal.returns-then-has-clause-step
returns-then-has-clause-step g c = step_none c.args.f.now c.args.mode (IsFirst c.args.e c.args.more.now) _ _ c.args.methods.now.items c.args.hands.now c.args.asked.now.items c.args.found.now.items c.args.queue.now.items c.args.steps.now _ c.requires.holds
    (λ d is. subst (λ (y : ExitId). IsKnown c.args.hands.now c.args.asked.now.items y) (sym is) (inr (c.has.ensures.yes c.if-has.true)))

pub owner-m-requires : goal.owner-m-requires
owner-m-requires g c = exit_low c.args.f.now c.args.exit c.exit_node.result c.exit_node.ensures

pub meet_method-requires-clause-method : goal.meet_method-requires-clause-method
meet_method-requires-clause-method g c =
    let p = c.args.f.now in
    let i = has_input p c.exit_node.result (exit_low p c.args.exit c.exit_node.result c.exit_node.ensures) in
    (i.0, subst (λ (k : ℕ). slice_get p.inputs k ≡ Some (Some i.0)) (sym c.owner-m.ensures.is) i.1)

pub returns-in_default-clause-step : goal.returns-in_default-clause-step
returns-in_default-clause-step g c = absurd (c.in_default.ensures c.in_ok-meet_method.ensures.met)

pub returns-then-is_asked-clause-step : goal.returns-then-is_asked-clause-step
returns-then-is_asked-clause-step g c =
    let p = c.args.f.now in
    let s = holds_on p c.args.mode (IsFirst c.args.e c.args.more.now) (λ d. g.R.Rows.surely c.args.rows.now d c.args.mode) (λ d. g.R.Rows.surely c.args.rows.now d c.args.mode) (λ d k. k) c.args.methods.now.items c.meet_method.new.methods.items c.meet_method.ensures.methods c.meet_method.ensures.kept c.args.hands.now c.args.asked.now.items c.args.found.now.items c.args.queue.now.items c.requires.holds in
    let h = c.is_asked.ensures.0 c.if-is_asked.true in
    step_none p c.args.mode (IsFirst c.args.e c.args.more.now) _ _ c.meet_method.new.methods.items c.args.hands.now c.args.asked.now.items c.args.found.now.items c.args.queue.now.items c.args.steps.now _ s
    (λ d is. subst (λ (y : ExitId). IsKnown c.args.hands.now c.args.asked.now.items y) (sym is) (inl (asked_by_pair p c.args.mode c.args.asked.now.items c.args.exit h.0 h.1 (c.requires.holds.good _ h.2))))

pub is_asked-requires-clause-exit : goal.is_asked-requires-clause-exit
is_asked-requires-clause-exit g c =
    let p = c.args.f.now in
    (c.exit_node.result, c.exit_node.ensures, (exit_low p c.args.exit c.exit_node.result c.exit_node.ensures, sym c.owner-m.ensures.is ∙ sym c.in-Some.ensures.2))

pub meet_new-requires-clause-exit : goal.meet_new-requires-clause-exit
meet_new-requires-clause-exit g c =
    let p = c.args.f.now in
    (c.exit_node.result, c.exit_node.ensures, (exit_low p c.args.exit c.exit_node.result c.exit_node.ensures, sym c.owner-m.ensures.is ∙ sym c.in-Some.ensures.2))

pub meet_new-requires-clause-met : goal.meet_new-requires-clause-met
meet_new-requires-clause-met g c = subst (λ (k : ℕ). IsMet c.meet_method.new.methods.items k) (sym c.in-Some.ensures.2) (c.in-Some.method.now, c.in-Some.ensures.0)

pub meet_new-requires-clause-no_hand : goal.meet_new-requires-clause-no_hand
meet_new-requires-clause-no_hand g c = c.has.ensures.none c.if-has.false

pub meet_new-requires-clause-not_asked : goal.meet_new-requires-clause-not_asked
meet_new-requires-clause-not_asked g c = λ k. false≢true (sym c.if-is_asked.false ∙ c.is_asked.ensures.1 (c.exit_node.result, c.exit_node.ensures, c.requires.holds.begun c.args.exit c.exit_node.result k c.exit_node.ensures))

pub meet_new-requires-clause-holds : goal.meet_new-requires-clause-holds
meet_new-requires-clause-holds g c = holds_on c.args.f.now c.args.mode (IsFirst c.args.e c.args.more.now) (λ d. g.R.Rows.surely c.args.rows.now d c.args.mode) (λ d. g.R.Rows.surely c.args.rows.now d c.args.mode) (λ d k. k) c.args.methods.now.items c.meet_method.new.methods.items c.meet_method.ensures.methods c.meet_method.ensures.kept c.args.hands.now c.args.asked.now.items c.args.found.now.items c.args.queue.now.items c.requires.holds

use Rattle.std.proofs.Common.{◌≡◌, ◌∙◌, ℕ, List, [], Some, None, Contains, inl, inr, refl, sym, subst, arith}
use Rattle.std.specs.Prelude.{slice_get}
use Rattle.slicer_ids.specs.declared.ids.ExitId.{ExitId}
use Rattle.tabulate.specs.Methods.{IsMet}
use Rattle.tabulate.specs.Hands.{hand_of}
use Rattle.tabulate.specs.States.{Holds, Meets}
use Rattle.tabulate.proofs.Placing.{has_input}
use Rattle.tabulate.proofs.ModeEdges.{exit_low}
use Rattle.tabulate.proofs.MeetLaws.{holds_on, holds_asked, meets_asked}
use Rattle.tabulate.proofs.DoneLaws.{none_or_some}
use Rattle.tabulate.specs.Tables.{IsFirst}
use Rattle.tabulate.proofs.meeting.begin.Goals as goal

pub owner-m-requires : goal.owner-m-requires
owner-m-requires g c = exit_low c.args.f.now c.args.e c.exit_node.result c.exit_node.ensures

pub meet_method-requires-clause-method : goal.meet_method-requires-clause-method
meet_method-requires-clause-method g c =
    let p = c.args.f.now in
    let i = has_input p c.exit_node.result (exit_low p c.args.e c.exit_node.result c.exit_node.ensures) in
    (i.0, subst (λ (k : ℕ). slice_get p.inputs k ≡ Some (Some i.0)) (sym c.owner-m.ensures.is) i.1)

pub ask_for-requires-clause-exit : goal.ask_for-requires-clause-exit
ask_for-requires-clause-exit g c = (c.exit_node.result, c.exit_node.ensures, (exit_low c.args.f.now c.args.e c.exit_node.result c.exit_node.ensures, sym c.owner-m.ensures.is ∙ sym c.met_method-method.ensures.id))

not_asked : (asked : List ExitId) (e : ExitId) → asked ≡ [] → Contains asked e → ⊥
not_asked asked e none k = let c : Contains [] e = subst (λ (ys : List ExitId). Contains ys e) none k in omega (arith, c.1)

pub returns-clause-holds : goal.returns-clause-holds
returns-clause-holds g c =
    let p = c.args.f.now in
    let x = c.exit_node.result in
    let s = holds_on p c.args.mode (IsFirst c.args.e c.args.more.now) (λ _. ⊥) (λ _. ⊥) (λ d k. k) c.args.methods.now.items c.meet_method.new.methods.items c.meet_method.ensures.methods c.meet_method.ensures.kept c.args.hands.now c.args.asked.now.items c.args.found.now.items c.args.queue.now.items c.requires.holds in
    let no_hand : hand_of c.args.hands.now c.args.e.0 ≡ None = elim (none_or_some (hand_of c.args.hands.now c.args.e.0)) [ inl none ↦ none | inr t ↦ absurd (c.requires.holds.hands.known c.args.e t.0 t.1) ] in
    let r = c.in_ok-ask_for.ensures in
    subst (λ (ys : List ExitId). Holds p c.args.mode (IsFirst c.args.e c.args.more.now) (λ _. ⊥) c.meet_method.new.methods.items c.args.hands.now ys c.ask_for.new.found.items c.ask_for.new.queue.items) (sym r.asked)
    (holds_asked p c.args.mode (IsFirst c.args.e c.args.more.now) (λ _. ⊥) c.meet_method.new.methods.items c.args.hands.now c.args.asked.now.items c.args.found.now.items c.ask_for.new.found.items c.args.queue.now.items c.ask_for.new.queue.items c.args.steps.now c.ask_for.new.steps s c.args.e x c.exit_node.ensures
    (subst (λ (k : ℕ). IsMet c.meet_method.new.methods.items k) c.owner-m.ensures.is c.in_ok-meet_method.ensures.met) c.requires.exit (inl (inl refl)) (not_asked c.args.asked.now.items c.args.e c.requires.none) no_hand r.goes (λ m ne. r.lens m (λ is. ne (is ∙ c.met_method-method.ensures.id ∙ c.owner-m.ensures.is))))

pub returns-clause-meets : goal.returns-clause-meets
returns-clause-meets g c =
    let p = c.args.f.now in
    let x = c.exit_node.result in
    let s = holds_on p c.args.mode (IsFirst c.args.e c.args.more.now) (λ _. ⊥) (λ _. ⊥) (λ d k. k) c.args.methods.now.items c.meet_method.new.methods.items c.meet_method.ensures.methods c.meet_method.ensures.kept c.args.hands.now c.args.asked.now.items c.args.found.now.items c.args.queue.now.items c.requires.holds in
    let no_hand : hand_of c.args.hands.now c.args.e.0 ≡ None = elim (none_or_some (hand_of c.args.hands.now c.args.e.0)) [ inl none ↦ none | inr t ↦ absurd (c.requires.holds.hands.known c.args.e t.0 t.1) ] in
    let r = c.in_ok-ask_for.ensures in
    subst (λ (ys : List ExitId). Meets p c.args.hands.now c.args.hands.now c.args.asked.now.items ys c.args.found.now.items c.ask_for.new.found.items) (sym r.asked)
    (meets_asked p c.args.mode (IsFirst c.args.e c.args.more.now) (λ _. ⊥) c.meet_method.new.methods.items c.args.hands.now c.args.asked.now.items c.args.found.now.items c.ask_for.new.found.items c.args.queue.now.items c.ask_for.new.queue.items c.args.steps.now c.ask_for.new.steps s c.args.e x c.exit_node.ensures
    (subst (λ (k : ℕ). IsMet c.meet_method.new.methods.items k) c.owner-m.ensures.is c.in_ok-meet_method.ensures.met) c.requires.exit (inl (inl refl)) (not_asked c.args.asked.now.items c.args.e c.requires.none) no_hand r.goes (λ m ne. r.lens m (λ is. ne (is ∙ c.met_method-method.ensures.id ∙ c.owner-m.ensures.is))))

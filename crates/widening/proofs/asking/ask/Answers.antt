use Rattle.std.proofs.Common.{◌≡◌, ◌∙◌, ℕ, sym, subst}
use Rattle.std.specs.Prelude.{slice_get, Some, Contains}
use Rattle.slicer_ids.specs.declared.ids.ExitId.{ExitId}
use Rattle.tabulate.specs.Methods.{IsMet}
use Rattle.tabulate.proofs.Placing.{has_input}
use Rattle.tabulate.proofs.ModeEdges.{exit_low}
use Rattle.widening.specs.Edges.{Widened}
use Rattle.widening.proofs.AskLaws.{pairs_on, step_none, step_asked, asked_by_pair}
use Rattle.widening.proofs.asking.ask.Goals as goal

pub owner-m-requires : goal.owner-m-requires
owner-m-requires g c = exit_low c.args.f.now c.args.exit c.exit_node.result c.exit_node.ensures

pub meet_method-requires-clause-method : goal.meet_method-requires-clause-method
meet_method-requires-clause-method g c =
    let f = c.args.f.now in
    let i = has_input f c.exit_node.result (exit_low f c.args.exit c.exit_node.result c.exit_node.ensures) in
    (i.0, subst (λ (k : ℕ). slice_get f.inputs k ≡ Some (Some i.0)) (sym c.owner-m.ensures.is) i.1)

pub is_asked-requires-clause-exit : goal.is_asked-requires-clause-exit
is_asked-requires-clause-exit g c = (c.exit_node.result, c.exit_node.ensures, (exit_low c.args.f.now c.args.exit c.exit_node.result c.exit_node.ensures, sym c.owner-m.ensures.is ∙ sym c.met_method-method.ensures.id))

pub ask_for-requires-clause-exit : goal.ask_for-requires-clause-exit
ask_for-requires-clause-exit g c = (c.exit_node.result, c.exit_node.ensures, (exit_low c.args.f.now c.args.exit c.exit_node.result c.exit_node.ensures, sym c.owner-m.ensures.is ∙ sym c.met_method-method.ensures.id))

pub returns-then-is_asked-clause-step : goal.returns-then-is_asked-clause-step
returns-then-is_asked-clause-step g c =
    let f = c.args.f.now in
    let E = Widened f c.args.expansions.now in
    let p = c.args.pairs.now in
    let s = pairs_on f E c.args.methods.now.items c.meet_method.new.methods.items p c.meet_method.ensures.methods c.meet_method.ensures.kept c.requires.pairs in
    let h = c.is_asked.ensures.0 c.if-is_asked.true in
    step_none f E (λ d. d ≡ c.args.exit) c.meet_method.new.methods.items p c.args.tally.now s
    (λ d is. subst (λ (y : ExitId). Contains p.asked.items y) (sym is) (asked_by_pair f E s.edges p.asked.items c.args.exit h.0 h.1 (s.good _ h.2)))

pub returns-clause-step : goal.returns-clause-step
returns-clause-step g c =
    let f = c.args.f.now in
    let E = Widened f c.args.expansions.now in
    let p = c.args.pairs.now in
    let x = c.exit_node.result in
    let s = pairs_on f E c.args.methods.now.items c.meet_method.new.methods.items p c.meet_method.ensures.methods c.meet_method.ensures.kept c.requires.pairs in
    let r = c.in_ok-ask_for.ensures in
    step_asked f E c.meet_method.new.methods.items p _ c.args.tally.now c.ask_for.new.steps s c.args.exit x c.exit_node.ensures
    (subst (λ (k : ℕ). IsMet c.meet_method.new.methods.items k) c.owner-m.ensures.is c.in_ok-meet_method.ensures.met) r.asked r.goes (λ m ne. r.lens m (λ is. ne (is ∙ c.met_method-method.ensures.id ∙ c.owner-m.ensures.is)))

use Rattle.std.proofs.Common.{◌≡◌, ◌∙◌, ℕ, List, map, refl, sym, ap, subst, arith}
use Rattle.std.proofs.lemmas.List.{get_or_read, take_all}
use Rattle.sessions.specs.declared.desk.Outcome.{Outcome}
use Rattle.serving.specs.Seated.{outcome_at, HasOutcome}
use Rattle.serving.proofs.TakenDesks.{some_of, outcome_next, outcomes_many}
use Rattle.serving.proofs.taking.outcomes_of.Goals as goal

pub loop-desk-init : goal.loop-desk-init
loop-desk-init g c = record { so = ap (λ (os : List Outcome). map some_of os) c.requires.empty; room = c.requires.room }

pub keep_outcome-requires-clause-room : goal.keep_outcome-requires-clause-room
keep_outcome-requires-clause-room g c =
    let l = c.loop-desk in
    let lt = c.loop-desk-test.true in
    omega (arith, lt, l.invariant.room, l.outcomes.ok.0, outcomes_many c.args.desks.now l.desk-index c.desk-item.result lt (λ d. sym (get_or_read c.args.desks.now l.desk-index c.desk-item.result lt c.desk-item.is d)) l.outcomes.items l.invariant.so)

pub keep_outcome-requires-clause-ended : goal.keep_outcome-requires-clause-ended
keep_outcome-requires-clause-ended g c =
    subst HasOutcome (sym c.desk-item.is) (c.requires.ended c.loop-desk.desk-index c.desk-item.result c.loop-desk-test.true)

pub loop-desk-preserved : goal.loop-desk-preserved
loop-desk-preserved g c =
    let l = c.loop-desk in
    let lt = c.loop-desk-test.true in
    record {
      so = outcome_next c.args.desks.now l.desk-index c.desk-item.result lt (λ d. sym (get_or_read c.args.desks.now l.desk-index c.desk-item.result lt c.desk-item.is d)) l.outcomes.items l.invariant.so c.keep_outcome.new.outcomes.items c.keep_outcome.ensures.kept;
      room = omega (arith, l.invariant.room, c.keep_outcome.ensures.room);
    }

pub returns : goal.returns
returns g c =
    let l = c.loop-desk in
    l.invariant.so ∙ ap (λ ds. map outcome_at ds) (take_all l.desk-index c.args.desks.now (omega (arith, c.loop-desk-test.false)))

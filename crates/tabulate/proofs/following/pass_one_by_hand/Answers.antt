use Rattle.std.proofs.Common.{◌≡◌, ◌+◌, ◌*◌, ◌-◌, ℕ, arith, subst}
use Rattle.bit_rows.specs.Words.{IsIn}
use Rattle.tabulate.specs.Frames.{row}
use Rattle.tabulate.specs.Rules.{Whole, PassesByHand}
use Rattle.tabulate.proofs.Placing.{starts_below, row_is}
use Rattle.tabulate.proofs.Fitting.{one_call}
use Rattle.tabulate.proofs.Going.{goes_same}
use Rattle.tabulate.proofs.following.pass_one_by_hand.Goals as goal

pub overflow_sub-argument : goal.overflow_sub-argument
overflow_sub-argument g c = starts_below c.args.f.now c.args.callee.now c.requires.callee c.args.argument.formal.0 c.requires.argument.1

pub returns-clause-goes : goal.returns-clause-goes
returns-clause-goes g c =
    let p = c.args.f.now in
    let a = c.args.argument in
    let place : 64 * 0 + (a.formal.0 - c.args.callee.now.first.0) ≡ row p a.formal.0 = omega (arith, row_is p c.args.callee.now c.requires.callee a.formal.0 c.requires.argument.1) in
    let bit : IsIn c.args.bits.now (row p a.formal.0) = subst (λ (k : ℕ). IsIn c.args.bits.now k) place (c.has.ensures.0 c.if-not-has.false) in
    goes_same p c.args.found.now.items c.give.new.found.items c.args.queue.now.items c.give.new.queue.items c.args.steps.now c.give.new.steps (Whole a.from.0 c.args.delta.now) (PassesByHand p c.args.bits.now c.args.call c.args.delta.now a)
    (λ x r. r.2) (λ x w. (one_call a.call c.args.call c.if-ne.ensures, bit, w)) c.in_ok-give.ensures.goes

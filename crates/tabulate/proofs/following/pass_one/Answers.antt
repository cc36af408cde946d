use Rattle.std.proofs.Common.{ℕ, arith, ap, subst}
use Rattle.bit_rows.specs.Adds.{Taken}
use Rattle.tabulate.specs.Frames.{exit_count, number_of}
use Rattle.tabulate.specs.Found.{Got, Todo}
use Rattle.tabulate.specs.Rules.{Whole, Passes}
use Rattle.tabulate.proofs.Placing.{number_low}
use Rattle.tabulate.proofs.Fitting.{one_call}
use Rattle.tabulate.proofs.Going.{goes_same}
use Rattle.tabulate.proofs.following.pass_one.Goals as goal

pub is_taken-requires-clause-number : goal.is_taken-requires-clause-number
is_taken-requires-clause-number g c = omega (arith, c.requires.number, number_low c.args.f.now c.args.exit.0 c.requires.exit, ap (exit_count c.args.f.now) c.requires.from.1)

pub give-requires-clause-node : goal.give-requires-clause-node
give-requires-clause-node g c = c.requires.home (one_call c.args.argument.call c.args.call c.if-ne.ensures)

pub returns-clause-goes : goal.returns-clause-goes
returns-clause-goes g c =
    let p = c.args.f.now in
    let a = c.args.argument in
    let taken : Taken (Got p c.args.found.now.items) (Todo p c.args.found.now.items) (a.formal.0, number_of p c.args.exit.0) = subst (λ (k : ℕ). Taken (Got p c.args.found.now.items) (Todo p c.args.found.now.items) (a.formal.0, k)) c.requires.number (c.is_taken.ensures.0 c.if-not-is_taken.false) in
    goes_same p c.args.found.now.items c.give.new.found.items c.args.queue.now.items c.give.new.queue.items c.args.steps.now c.give.new.steps (Whole a.from.0 c.args.delta.now) (Passes p c.args.exit c.args.call c.args.delta.now a)
    (λ x r. r.2) (λ x w. (one_call a.call c.args.call c.if-ne.ensures, taken, w)) c.in_ok-give.ensures.goes

use Rattle.bit_rows.specs.Adds.{Taken}
use Rattle.tabulate.specs.Found.{Got, Todo}
use Rattle.tabulate.specs.Rules.{FromOne, Passes}
use Rattle.tabulate.proofs.Going.{goes_same}
use Rattle.tabulate.proofs.following.pass.Goals as goal

pub pass_each-requires-clause-arguments : goal.pass_each-requires-clause-arguments
pass_each-requires-clause-arguments g c = λ x h. c.requires.arguments x ((c.arguments_of_call-arguments.ensures x).0 h).0

pub returns-clause-goes : goal.returns-clause-goes
returns-clause-goes g c =
    let p = c.args.f.now in
    let ts = c.args.found.now.items in
    let K = Taken (Got p ts) (Todo p ts) in
    goes_same p ts c.pass_each.new.found.items c.args.queue.now.items c.pass_each.new.queue.items c.args.steps.now c.pass_each.new.steps (FromOne (Passes p c.args.exit c.args.call c.args.delta.now) c.arguments_of_call-arguments.result.now) (FromOne (Passes p c.args.exit c.args.call c.args.delta.now) c.args.arguments.now)
    (λ x r. (r.0, (c.arguments_of_call-arguments.ensures r.0).1 (r.1, r.2.0), r.2)) (λ x r. (r.0, ((c.arguments_of_call-arguments.ensures r.0).0 r.1).0, r.2)) c.in_ok-pass_each.ensures.goes

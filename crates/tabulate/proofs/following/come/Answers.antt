use Rattle.bit_rows.specs.Adds.{Taken}
use Rattle.tabulate.specs.Found.{Got, Todo}
use Rattle.tabulate.specs.Rules.{FromOne, Comes}
use Rattle.tabulate.proofs.Going.{goes_same}
use Rattle.tabulate.proofs.following.come.Goals as goal

pub come_each-requires-clause-backs : goal.come_each-requires-clause-backs
come_each-requires-clause-backs g c = λ x h. c.requires.backs x ((c.returns_of_call-backs.ensures x).0 h).0

pub returns-clause-goes : goal.returns-clause-goes
returns-clause-goes g c =
    let p = c.args.f.now in
    let ts = c.args.found.now.items in
    let K = Taken (Got p ts) (Todo p ts) in
    goes_same p ts c.come_each.new.found.items c.args.queue.now.items c.come_each.new.queue.items c.args.steps.now c.come_each.new.steps (FromOne (Comes p c.args.formal c.args.call c.args.delta.now c.args.from) c.returns_of_call-backs.result.now) (FromOne (Comes p c.args.formal c.args.call c.args.delta.now c.args.from) c.args.backs.now)
    (λ x r. (r.0, (c.returns_of_call-backs.ensures r.0).1 (r.1, r.2.0), r.2)) (λ x r. (r.0, ((c.returns_of_call-backs.ensures r.0).0 r.1).0, r.2)) c.in_ok-come_each.ensures.goes

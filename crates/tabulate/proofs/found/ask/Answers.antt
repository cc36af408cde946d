use Rattle.std.proofs.Common.{arith, ap}
use Rattle.tabulate.specs.Frames.{exit_count}
use Rattle.tabulate.proofs.Placing.{number_low}
use Rattle.bit_rows.specs.Adds.{Taken}
use Rattle.tabulate.specs.Found.{Got, Todo}
use Rattle.tabulate.specs.Rules.{Asks}
use Rattle.tabulate.proofs.Going.{goes_same}
use Rattle.tabulate.proofs.Asking.{to_row, from_row}
use Rattle.tabulate.proofs.found.ask.Goals as goal

pub returns-clause-goes : goal.returns-clause-goes
returns-clause-goes g c =
    let p = c.args.f.now in
    let e = c.args.n.0 in
    let ts1 = c.args.found.now.items in
    goes_same p ts1 c.give_from.new.found.items c.args.queue.now.items c.give_from.new.queue.items c.args.steps.now c.give_from.new.steps _ (Asks p e) (λ x. to_row p e c.args.number c.requires.number (Taken (Got p ts1) (Todo p ts1)) x) (λ x. from_row p e c.args.number c.requires.number (Taken (Got p ts1) (Todo p ts1)) x) c.in_ok-give_from.ensures.goes

pub give_from-requires-clause-delta : goal.give_from-requires-clause-delta
give_from-requires-clause-delta g c = omega (arith, c.requires.number, number_low c.args.f.now c.args.n.0 c.requires.exit, ap (exit_count c.args.f.now) c.requires.node.1)

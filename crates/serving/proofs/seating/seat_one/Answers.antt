use Rattle.std.proofs.Common.{inl}
use Rattle.serving.proofs.SeatedDesks.{is_nil}
use Rattle.serving.proofs.seating.seat_one.Goals as goal

pub returns-in-Ok-clause-step : goal.returns-in-Ok-clause-step
returns-in-Ok-clause-step g c =
    let none = is_nil c.args.back.now.items c.args.back.now.len c.is_empty.result c.is_empty.ensures c.if-not-is_empty.false c.args.back.now.ok.0 in
    inl (c.in-Ok.desk, none, none, c.keep-in-Ok.ensures.items, c.in-Ok.ensures.fresh, c.in-Ok.ensures.ends.0, c.in-Ok.ensures.ends.1)

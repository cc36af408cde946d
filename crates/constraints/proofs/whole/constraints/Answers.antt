use Rattle.constraints.proofs.Ending.{too_many_methods}
use Rattle.constraints.proofs.whole.constraints.Goals as goal

pub returns-in-Err-clause-limit : goal.returns-in-Err-clause-limit
returns-in-Err-clause-limit c =
    let (p, given) = c.requires.program in
    let (is, many) = c.in-Err.ensures.limit p given.of in
    too_many_methods c.args.h.now c.args.bodies.now c.in-Err.error p given.of is many

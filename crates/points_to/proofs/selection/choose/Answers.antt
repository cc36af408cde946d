use Rattle.std.proofs.Common.{arith}
use Rattle.points_to.proofs.Choosing.{site_read, chooses_nothing}
use Rattle.points_to.proofs.selection.choose.Goals as goal

pub returns-in-None-clause-moved : goal.returns-in-None-clause-moved
returns-in-None-clause-moved c = chooses_nothing c.args.system.now c.args.found.now c.args.c c.args.signature c.args.object c.items.result.now c.items.ensures (grind (arith, c.in-None.ensures.lookup.0))

pub choose_info-requires-clause-site : goal.choose_info-requires-clause-site
choose_info-requires-clause-site c = site_read c.args.system.now c.args.object c.items.result.now c.in-Some.info.now c.items.ensures (grind (arith, c.in-Some.ensures.lookup.0)) c.in-Some.ensures.lookup.1

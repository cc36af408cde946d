use Rattle.std.proofs.Common.{arith}
use Rattle.points_to.proofs.Choosing.{site_read}
use Rattle.points_to.proofs.Filtering.{past_site}
use Rattle.points_to.proofs.filters.add_site.Goals as goal

pub returns-in-None : goal.returns-in-None
returns-in-None c = past_site c.args.system.now c.args.keep c.args.number c.items.result.now c.args.row.now.items c.items.ensures (grind (arith, c.in-None.ensures.lookup.0)) c.requires.before

pub add_known-requires-clause-site : goal.add_known-requires-clause-site
add_known-requires-clause-site c = site_read c.args.system.now c.args.number c.items.result.now c.in-Some.info.now c.items.ensures (grind (arith, c.in-Some.ensures.lookup.0)) c.in-Some.ensures.lookup.1

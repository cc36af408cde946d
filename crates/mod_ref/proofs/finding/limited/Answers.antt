use Rattle.std.proofs.Common.{refl, arith}
use Rattle.dep_form.specs.Effects.{IsTraced}
use Rattle.mod_ref.proofs.Tracing.{once_each}
use Rattle.mod_ref.proofs.finding.limited.Goals as goal

pub returns-then-count-gt-LOCATIONS-clause-limit : goal.returns-then-count-gt-LOCATIONS-clause-limit
returns-then-count-gt-LOCATIONS-clause-limit c = (refl, c.if-count-gt-LOCATIONS.true, (c.args.traced.locations.items, once_each c.args.traced.locations.items (IsTraced c.args.system.now) c.requires.traced.order c.requires.traced.members, omega (arith, c.len-count.ensures, c.args.traced.locations.ok.0)))

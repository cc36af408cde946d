use Rattle.std.proofs.Common.{◌≡◌, Some, sym, subst}
use Rattle.std.specs.Prelude.{map, option_map}
use Rattle.worklists.specs.Growth.{Grows}
use Rattle.signature_tables.specs.TextPairs.{pair_of}
use Rattle.signature_tables.proofs.NamedGrowth.{one_more}
use Rattle.signature_tables.proofs.naming.push.Goals as goal

pub returns-in-Ok : goal.returns-in-Ok
returns-in-Ok c = subst (λ o. Grows (map pair_of c.args.texts.now.items) (map pair_of c.push.new.self.items) (λ nd. option_map pair_of o ≡ Some nd)) (sym c.in-Some.is)
    (one_more c.args.texts.now.items c.push.new.self.items c.in-Some.found c.in-Ok.ensures.items)

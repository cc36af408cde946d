use Rattle.std.proofs.Common.{map, arith}
use Rattle.signature_tables.specs.TextPairs.{pair_of}
use Rattle.variable_tables.proofs.LookingUp.{named_exact, not_named}
use Rattle.variable_tables.proofs.MethodPlaces.{as_many_fields}
use Rattle.variable_tables.proofs.finding.static_named.Goals as goal

pub returns-in-Some : goal.returns-in-Some
returns-in-Some c = λ p s of listed.
    let fields = as_many_fields c.args.h.now c.field_places.result.now c.field_places.ensures p of in
    named_exact p s (map pair_of c.args.foreign.now) listed c.args.name.now c.args.descriptor.now c.in-Some.place _ c.in-Some.ensures.found (omega (arith, fields))

pub returns-in-None : goal.returns-in-None
returns-in-None c = λ p s of listed. not_named p s (map pair_of c.args.foreign.now) listed c.args.name.now c.args.descriptor.now c.in-None.ensures.missed

use Rattle.std.proofs.Common.{arith}
use Rattle.variable_tables.proofs.MethodPlaces.{as_many_fields}
use Rattle.constraints.proofs.limits.count_fields.Goals as goal

pub returns-in-Some : goal.returns-in-Some
returns-in-Some c = λ p of. omega (arith, c.in-Some.ensures, as_many_fields c.args.h.now c.field_places-count.result.now c.field_places-count.ensures p of)

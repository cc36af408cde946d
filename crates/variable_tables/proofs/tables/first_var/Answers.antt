use Rattle.std.proofs.Common.{arith}
use Rattle.variable_tables.proofs.MethodPlaces.{as_many_fields}
use Rattle.variable_tables.proofs.tables.first_var.Goals as goal

pub returns-in-Some : goal.returns-in-Some
returns-in-Some c = λ p of. omega (arith, as_many_fields c.args.h.now c.field_places.result.now c.field_places.ensures p of)

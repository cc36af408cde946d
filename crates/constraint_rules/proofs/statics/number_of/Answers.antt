use Rattle.constraint_rules.specs.Naming.{key_in}
use Rattle.constraint_rules.proofs.OfStatics.{static_found, static_foreign}
use Rattle.constraint_rules.proofs.statics.number_of.Goals as goal

pub returns-in-Some : goal.returns-in-Some
returns-in-Some c = λ p s names set. static_found c.args.t.now p s names set (key_in c.args.r) c.in-Some.field c.static_field.result c.in-Some.ensures c.static_field.ensures

pub returns-in-None : goal.returns-in-None
returns-in-None c = λ p s names set. static_foreign c.args.t.now p s names set (key_in c.args.r) c.static_named.result c.in-None.ensures (c.static_named.ensures p s set.of set.foreign)

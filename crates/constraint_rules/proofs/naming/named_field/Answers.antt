use Rattle.std.proofs.Common.{sym}
use Rattle.constraint_rules.specs.Naming.{key_in}
use Rattle.constraint_rules.proofs.OfNames.{one_field_named, no_field_named}
use Rattle.constraint_rules.proofs.naming.named_field.Goals as goal

pub returns-in-Some : goal.returns-in-Some
returns-in-Some c = λ p s names set placed.
    one_field_named c.args.t.now c.args.x.now p s names set placed (key_in c.in-Some.r) c.find_field.result (sym c.in-Some.ensures) c.find_field.ensures

pub returns-in-None : goal.returns-in-None
returns-in-None c = λ p s names set placed. no_field_named c.args.t.now c.args.x.now p s names set placed (sym c.in-None.ensures)

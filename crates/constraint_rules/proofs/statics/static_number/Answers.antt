use Rattle.std.proofs.Common.{sym}
use Rattle.constraint_rules.specs.Naming.{key_in}
use Rattle.constraint_rules.proofs.OfStatics.{static_named, no_static_named}
use Rattle.constraint_rules.proofs.statics.static_number.Goals as goal

pub returns-in-Some : goal.returns-in-Some
returns-in-Some c = λ p s names set placed.
    static_named c.args.t.now c.args.x.now p s names set placed (key_in c.in-Some.r) c.number_of.result (sym c.in-Some.ensures) (c.number_of.ensures p s names set)

pub returns-in-None : goal.returns-in-None
returns-in-None c = λ p s names set placed. no_static_named c.args.t.now c.args.x.now p s names set placed (sym c.in-None.ensures)

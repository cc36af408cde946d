use Rattle.std.proofs.Common.{sym}
use Rattle.constraint_rules.proofs.Needing.{made_class, no_made_class}
use Rattle.constraint_rules.proofs.classes.class_made.Goals as goal

pub returns-in-Some : goal.returns-in-Some
returns-in-Some c = λ p s names set placed.
    made_class c.args.t.now c.args.x.now p s names set placed c.in-Some.name.now c.find_class.result (sym c.in-Some.ensures) c.find_class.ensures

pub returns-in-None : goal.returns-in-None
returns-in-None c = λ p s names set placed. no_made_class c.args.t.now c.args.x.now p s names set placed (sym c.in-None.ensures)

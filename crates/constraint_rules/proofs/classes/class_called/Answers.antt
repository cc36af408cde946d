use Rattle.std.proofs.Common.{sym}
use Rattle.constraint_rules.specs.Naming.{key_in}
use Rattle.constraint_rules.proofs.Needing.{called_class, no_called_class}
use Rattle.constraint_rules.proofs.classes.class_called.Goals as goal

pub returns-in-Some : goal.returns-in-Some
returns-in-Some c = λ p s names set placed.
    called_class c.args.t.now c.args.x.now p s names set placed (key_in c.in-Some.r) c.class_found.result (sym c.in-Some.ensures) (c.class_found.ensures p set.of)

pub returns-in-None : goal.returns-in-None
returns-in-None c = λ p s names set placed. no_called_class c.args.t.now c.args.x.now p s names set placed (sym c.in-None.ensures)

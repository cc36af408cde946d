use Rattle.constraint_rules.proofs.Needing.{static_class, no_static_class}
use Rattle.constraint_rules.proofs.classes.class_of_static.Goals as goal

pub returns-in-Some : goal.returns-in-Some
returns-in-Some c = λ p s names set placed.
    static_class c.args.t.now c.args.x.now p s names set placed c.in-Some.found c.class_of_found.result (c.in-Some.ensures p s names set placed) (c.class_of_found.ensures p set.of)

pub returns-in-None : goal.returns-in-None
returns-in-None c = λ p s names set placed. no_static_class c.args.t.now c.args.x.now p s names set placed (c.in-None.ensures p s names set placed)

use Rattle.constraint_rules.specs.Naming.{key_in}
use Rattle.constraint_rules.proofs.Needing.{method_class, no_method_class}
use Rattle.constraint_rules.proofs.classes.class_found.Goals as goal

pub returns-in-Some : goal.returns-in-Some
returns-in-Some c = λ p of. method_class c.args.h.now p of (key_in c.args.r) c.in-Some.method c.class_of.result c.in-Some.ensures (c.class_of.ensures p of)

pub returns-in-None : goal.returns-in-None
returns-in-None c = λ p of. no_method_class c.args.h.now p of (key_in c.args.r) c.in-None.ensures

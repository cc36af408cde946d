use Rattle.constraint_rules.proofs.Needing.{found_class, no_found_class}
use Rattle.constraint_rules.proofs.classes.class_of_found.Goals as goal

pub returns-in-Some : goal.returns-in-Some
returns-in-Some c = λ p of. found_class p c.args.found c.in-Some.field c.class_of_field.result c.in-Some.is (c.class_of_field.ensures p of)

pub returns-in-None : goal.returns-in-None
returns-in-None c = λ p of. no_found_class p c.args.found c.in-None.is

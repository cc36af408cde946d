use Rattle.constraint_rules.proofs.OfNames.{number_named, number_of_none}
use Rattle.constraint_rules.proofs.naming.field_of.Goals as goal

pub returns-in-Some : goal.returns-in-Some
returns-in-Some c = λ p s names set placed.
    number_named c.args.t.now c.args.x.now p s names set placed c.in-Some.found c.number_of.result c.number_of.ensures.named (c.number_of.ensures.state p s names set) (c.in-Some.ensures p s names set placed)

pub returns-in-None : goal.returns-in-None
returns-in-None c = λ p s names set placed. number_of_none c.args.t.now c.args.x.now p s names set placed (c.in-None.ensures p s names set placed)

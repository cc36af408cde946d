use Rattle.program_facts.proofs.making.facts.Goals as goal

pub returns-in-Ok-facts_of-clause-facts : goal.returns-in-Ok-facts_of-clause-facts
returns-in-Ok-facts_of-clause-facts c = λ p of. c.tables_are_the_facts.ensures p c.args.s.now c.args.mr.now c.in-Ok-facts_of.f of.asked of.coded of.constraints c.requires.effects (c.in-Ok-facts_of.ensures p of)

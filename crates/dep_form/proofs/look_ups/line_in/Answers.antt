use Rattle.dep_form.proofs.look_ups.line_in.Goals as goal

pub returns-in-None : goal.returns-in-None
returns-in-None c = let no : ⊥ = c.in-None.ensures.missed c.requires.0 c.requires.1 (rw c.items-lines.ensures c.requires.2) c.requires.3 in absurd no

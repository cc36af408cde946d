use Rattle.program_code.proofs.ModRef.{mod_there, mod_back, ref_there, ref_back}
use Rattle.program_code.proofs.laws.effects_are_those_of_the_program.Goals as goal

pub returns-clause-changed : goal.returns-clause-changed
returns-clause-changed c = λ p s m l x coded tie number. (mod_there p s coded tie l x number m, mod_back p s coded tie l x number m)

pub returns-clause-used : goal.returns-clause-used
returns-clause-used c = λ p s m l x coded tie number. (ref_there p s coded tie l x number m, ref_back p s coded tie l x number m)

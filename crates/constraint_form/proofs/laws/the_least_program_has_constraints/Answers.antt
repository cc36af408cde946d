use Rattle.constraint_form.proofs.LeastProgram.{tiny_asked}
use Rattle.constraint_form.proofs.LeastSystem.{least_system, least_tables}
use Rattle.constraint_form.proofs.laws.the_least_program_has_constraints.Goals as goal

pub returns-clause-asked : goal.returns-clause-asked
returns-clause-asked c = tiny_asked

pub returns-clause-made : goal.returns-clause-made
returns-clause-made c = (least_system, least_tables)

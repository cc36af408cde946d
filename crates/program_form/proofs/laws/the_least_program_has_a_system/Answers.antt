use Rattle.program_form.proofs.TinySystem.{tiny_system}
use Rattle.program_form.proofs.TinyTie.{tiny_tie}
use Rattle.program_form.proofs.laws.the_least_program_has_a_system.Goals as goal

pub returns : goal.returns
returns c = (tiny_system, tiny_tie)

use Rattle.program_code.proofs.TinyCode.{tiny_is_of_code}
use Rattle.constraint_form.proofs.LeastProgram.{tiny_asked}
use Rattle.read_programs.proofs.LeastFiles.{tiny_files_keep}
use Rattle.read_programs.proofs.laws.the_least_program_can_be_read.Goals as goal

pub returns-clause-code : goal.returns-clause-code
returns-clause-code c = tiny_is_of_code

pub returns-clause-files : goal.returns-clause-files
returns-clause-files c = tiny_files_keep

pub returns-clause-entries : goal.returns-clause-entries
returns-clause-entries c = tiny_asked.entries

use Rattle.program_form.specs.Tiny.{tiny_program, tiny_method, tiny_code}
use Rattle.program_form.proofs.TinySystem.{tiny_system}
use Rattle.program_form.proofs.TinyTie.{tiny_tie}
use Rattle.program_code.proofs.TinyCode.{tiny_is_of_code, tiny_has_code}
use Rattle.program_code.proofs.laws.some_program_has_its_code.Goals as goal

pub returns : goal.returns
returns c = (tiny_program, tiny_system, tiny_is_of_code, tiny_tie, tiny_method, tiny_code, tiny_has_code)

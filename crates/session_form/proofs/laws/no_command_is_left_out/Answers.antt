use Rattle.session_form.proofs.SomeAnswer.{not_left_out}
use Rattle.session_form.proofs.laws.no_command_is_left_out.Goals as goal

pub returns : goal.returns
returns c = not_left_out

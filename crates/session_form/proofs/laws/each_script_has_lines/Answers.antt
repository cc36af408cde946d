use Rattle.session_form.proofs.SomeLines.{some_lines}
use Rattle.session_form.proofs.laws.each_script_has_lines.Goals as goal

pub returns : goal.returns
returns c = some_lines

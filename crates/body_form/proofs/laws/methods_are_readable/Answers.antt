use Rattle.body_form.proofs.Members.{methods_are_readable}
use Rattle.body_form.proofs.laws.methods_are_readable.Goals as goal

pub returns : goal.returns
returns c = methods_are_readable

use Rattle.std.proofs.Common.{refl}
use Rattle.program_form.specs.Systems.{of_field}
use Rattle.variable_tables.proofs.finding.static_field.Goals as goal

pub returns : goal.returns
returns c = λ p s lt. of_field lt refl

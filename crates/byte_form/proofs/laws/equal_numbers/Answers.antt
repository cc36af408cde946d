use Rattle.byte_form.proofs.Numbers.{equal_bytes}
use Rattle.byte_form.proofs.laws.equal_numbers.Goals as goal

pub returns : goal.returns
returns c = equal_bytes

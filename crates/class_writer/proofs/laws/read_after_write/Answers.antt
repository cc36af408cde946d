use Rattle.class_form.proofs.ClassLaws.{one_value}
use Rattle.class_writer.proofs.laws.read_after_write.Goals as goal

pub returns : goal.returns
returns c = λ written class read fits h k. one_value written read class fits k h

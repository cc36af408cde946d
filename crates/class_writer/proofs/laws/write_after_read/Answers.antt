use Rattle.class_form.proofs.ClassLaws.{one_spelling}
use Rattle.class_writer.proofs.laws.write_after_read.Goals as goal

pub returns : goal.returns
returns c = λ bytes written read h k. one_spelling written bytes read k h

use Rattle.class_form.proofs.ClassLaws.{one_spelling}
use Rattle.class_form.proofs.laws.class_determines_bytes.Goals as goal

pub returns : goal.returns
returns c = one_spelling

use Rattle.class_form.proofs.ClassLaws.{one_value}
use Rattle.class_form.proofs.laws.bytes_determine_class.Goals as goal

pub returns : goal.returns
returns c = one_value

use Rattle.class_form.proofs.ClassLaws.{either_one, not_both, one_fault}
use Rattle.class_form.proofs.laws.spelled_or_refused.Goals as goal

pub returns : goal.returns
returns c = record { either = either_one; not_both = not_both; one = one_fault }

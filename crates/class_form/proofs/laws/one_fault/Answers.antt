use Rattle.class_form.proofs.ShapeLaws.{one_fault, no_fault}
use Rattle.class_form.proofs.laws.one_fault.Goals as goal

pub returns-clause-one : goal.returns-clause-one
returns-clause-one c = one_fault

pub returns-clause-no_shape : goal.returns-clause-no_shape
returns-clause-no_shape c = no_fault

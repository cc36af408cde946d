use Rattle.constraint_form.proofs.DeclaredOnce.{field_once, method_once, instance_once}
use Rattle.constraint_form.proofs.laws.named_classes_declare_once.Goals as goal

pub returns-clause-fields : goal.returns-clause-fields
returns-clause-fields c = λ classes key named. field_once classes named key

pub returns-clause-methods : goal.returns-clause-methods
returns-clause-methods c = λ classes key named. method_once classes named key

pub returns-clause-selections : goal.returns-clause-selections
returns-clause-selections c = λ classes key named. instance_once classes named key

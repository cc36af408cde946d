use Rattle.dep_form.proofs.OneMethod.{one_node}
use Rattle.dep_form.proofs.laws.a_node_is_of_one_method.Goals as goal

pub returns : goal.returns
returns c = λ f n a b j k p q. one_node f n a b j k p q

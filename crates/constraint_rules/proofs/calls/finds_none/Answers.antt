use Rattle.constraint_rules.specs.Naming.{key_in}
use Rattle.constraint_rules.proofs.MethodNumbers.{finds_nothing}
use Rattle.constraint_rules.proofs.calls.finds_none.Goals as goal

pub returns : goal.returns
returns c = λ p of. finds_nothing c.args.h.now p of (key_in c.args.r) c.find_method.result c.is_none.result c.find_method.ensures c.is_none.ensures

use Rattle.constraint_rules.specs.Naming.{key_in}
use Rattle.constraint_rules.proofs.MethodNumbers.{found_one}
use Rattle.constraint_rules.proofs.calls.find.Goals as goal

pub returns : goal.returns
returns c = λ p of. found_one c.args.h.now p of (key_in c.args.r) c.find_method.result c.find_method.ensures

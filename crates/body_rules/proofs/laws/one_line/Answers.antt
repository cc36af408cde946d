use Rattle.body_rules.proofs.OneLine.{one_line}
use Rattle.body_rules.proofs.laws.one_line.Goals as goal

pub returns : goal.returns
returns c = λ path bytes s t h k. one_line path bytes h k

use Rattle.constraint_rules.proofs.OfNumbers.{first_none, first_some, positive}
use Rattle.constraint_rules.proofs.fresh.first_of.Goals as goal

pub returns-then-numbers-eq0 : goal.returns-then-numbers-eq0
returns-then-numbers-eq0 c = first_none c.args.numbers.first c.args.numbers.count c.if-numbers-eq0.true

pub returns : goal.returns
returns c = first_some c.args.numbers.first c.args.numbers.count (positive c.args.numbers.count c.if-numbers-eq0.false)

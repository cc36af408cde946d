use Rattle.std.proofs.Common.{arith}
use Rattle.input_lists.proofs.method.gets_of.Goals as goal

pub gets-requires-clause-small : goal.gets-requires-clause-small
gets-requires-clause-small c = omega (arith, c.requires.row.numbers)

pub gets-requires-clause-numbers : goal.gets-requires-clause-numbers
gets-requires-clause-numbers c = omega (arith, c.requires.row.numbers)

use Rattle.std.proofs.Common.{arith}
use Rattle.input_lists.proofs.method.puts_of.Goals as goal

pub puts-requires-clause-small : goal.puts-requires-clause-small
puts-requires-clause-small c = omega (arith, c.requires.row.numbers)

pub puts-requires-clause-numbers : goal.puts-requires-clause-numbers
puts-requires-clause-numbers c = omega (arith, c.requires.row.numbers)

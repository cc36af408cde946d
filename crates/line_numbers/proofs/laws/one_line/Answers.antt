use Rattle.std.proofs.Common.{◌+◌}
use Rattle.line_numbers.proofs.OneLine.{one_line_below}
use Rattle.line_numbers.proofs.laws.one_line.Goals as goal

pub returns : goal.returns
returns c = λ lines pc a b h k. one_line_below lines (pc + 1) a b h k

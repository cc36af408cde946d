use Rattle.bit_rows.proofs.Counting.{list_of_row}
use Rattle.bit_rows.proofs.laws.bits_are_members.Goals as goal

pub returns : goal.returns
returns c = λ words all. list_of_row words all

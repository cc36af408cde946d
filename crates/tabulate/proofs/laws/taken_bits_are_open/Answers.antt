use Rattle.tabulate.proofs.DoneLaws.{done_taken}
use Rattle.tabulate.proofs.laws.taken_bits_are_open.Goals as goal

pub returns : goal.returns
returns c = λ p mode h ts ts' n delta takes done. done_taken p mode h ts ts' n delta takes done

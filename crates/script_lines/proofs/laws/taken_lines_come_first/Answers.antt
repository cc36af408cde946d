use Rattle.script_lines.proofs.Beginning.{first_lines}
use Rattle.script_lines.proofs.laws.taken_lines_come_first.Goals as goal

pub returns : goal.returns
returns c = λ script lines ls r left is_cut between are. first_lines script lines ls r left is_cut between are

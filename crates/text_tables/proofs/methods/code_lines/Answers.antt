use Rattle.line_numbers.specs.LineTables.{line_in}
use Rattle.text_tables.proofs.Answered.{ok_then}
use Rattle.text_tables.proofs.methods.code_lines.Goals as goal

pub returns : goal.returns
returns c = ok_then c.point_lines.result _ _ c.point_lines.ensures (λ v e. record { line = line_in c.in_ok-numbers.numbers; listed = e; is = c.in_ok-numbers.ensures })

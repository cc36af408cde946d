use Rattle.std.proofs.Common.{sym, ◌∙◌}
use Rattle.refused_statements.proofs.Telling.{line_there}
use Rattle.refused_statements.proofs.finding.line_in.Goals as goal

pub returns-in-Some : goal.returns-in-Some
returns-in-Some c =
    line_there c.args.lines.now c.args.pc c.partition_point-k.result c.in-Some.item c.line_of.result (sym c.item_at.ensures ∙ c.in-Some.is) c.line_of.ensures

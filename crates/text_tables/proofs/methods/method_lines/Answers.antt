use Rattle.std.proofs.Common.{sym, ◌∙◌}
use Rattle.std.proofs.lemmas.Bool.{false≢true}
use Rattle.text_tables.proofs.Answered.{ok_then}
use Rattle.text_tables.proofs.BodyLines.{none_rise}
use Rattle.text_tables.proofs.TextTables.{run_lines, not_run}
use Rattle.text_tables.proofs.methods.method_lines.Goals as goal

pub returns-then-is_reached-clause-lines : goal.returns-then-is_reached-clause-lines
returns-then-is_reached-clause-lines c = ok_then c.statement_lines.result _ _ c.statement_lines.ensures.lines
    (λ v h p s is solved. run_lines p s c.args.m v.items ((c.is_reached.ensures s solved).0 c.if-is_reached.true) (h p is))

pub returns-else-is_reached-clause-rise : goal.returns-else-is_reached-clause-rise
returns-else-is_reached-clause-rise c = none_rise c.new.result.items c.new.ensures.items

pub returns-else-is_reached-clause-lines : goal.returns-else-is_reached-clause-lines
returns-else-is_reached-clause-lines c = λ p s is solved. not_run p s c.args.m c.new.result.items c.new.ensures.items
    (λ r. false≢true (sym c.if-is_reached.false ∙ (c.is_reached.ensures s solved).1 r))

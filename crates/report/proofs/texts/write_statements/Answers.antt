use Rattle.std.proofs.Common.{rules}
use Rattle.report.proofs.Sequence.{then_wrote, stopped}
use Rattle.report.proofs.texts.write_statements.Goals as goal

pub returns-in_err-write_counted : goal.returns-in_err-write_counted
returns-in_err-write_counted g c = stopped g.K.Sink.written g.K.Sink.label g.K.Sink.faults g.K.Sink.steady _ _ c.in_err-write_counted.field-0.0 _ _ _ _ (search rules) (search rules) c.write_counted.ensures

pub returns : goal.returns
returns g c = then_wrote g.K.Sink.written g.K.Sink.label g.K.Sink.faults g.K.Sink.steady _ _ _ _ _ _ _ _ (search rules) c.write_counted.ensures c.write_each.ensures

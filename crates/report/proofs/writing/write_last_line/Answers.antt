use Rattle.std.proofs.Common.{rules}
use Rattle.report.proofs.Sequence.{then_wrote, stopped}
use Rattle.report.proofs.writing.write_last_line.Goals as goal

pub returns-in_err-write_line_word : goal.returns-in_err-write_line_word
returns-in_err-write_line_word g c = stopped g.K.Sink.written g.K.Sink.label g.K.Sink.faults g.K.Sink.steady _ _ c.in_err-write_line_word.field-0.0 _ _ _ _ (search rules) (search rules) c.write_line_word.ensures

pub returns : goal.returns
returns g c = then_wrote g.K.Sink.written g.K.Sink.label g.K.Sink.faults g.K.Sink.steady _ _ _ _ _ _ _ _ (search rules) c.write_line_word.ensures c.write.ensures

use Rattle.std.proofs.Common.{rules}
use Rattle.report.proofs.Sequence.{then_wrote, stopped}
use Rattle.report.proofs.places.write_statement.Goals as goal

pub returns-in_err-write_place : goal.returns-in_err-write_place
returns-in_err-write_place g c = stopped g.K.Sink.written g.K.Sink.label g.K.Sink.faults g.K.Sink.steady _ _ c.in_err-write_place.field-0.0 _ _ _ _ (search rules) (search rules) c.write_place.ensures

pub returns-in_err-write : goal.returns-in_err-write
returns-in_err-write g c = then_wrote g.K.Sink.written g.K.Sink.label g.K.Sink.faults g.K.Sink.steady _ _ _ _ _ _ _ _ (search rules) c.write_place.ensures (stopped g.K.Sink.written g.K.Sink.label g.K.Sink.faults g.K.Sink.steady _ _ c.in_err-write.field-0.0 _ _ _ _ (search rules) (search rules) c.write.ensures)

pub returns : goal.returns
returns g c = then_wrote g.K.Sink.written g.K.Sink.label g.K.Sink.faults g.K.Sink.steady _ _ _ _ _ _ _ _ (search rules) c.write_place.ensures (then_wrote g.K.Sink.written g.K.Sink.label g.K.Sink.faults g.K.Sink.steady _ _ _ _ _ _ _ _ (search rules) c.write.ensures c.write_line_of.ensures)

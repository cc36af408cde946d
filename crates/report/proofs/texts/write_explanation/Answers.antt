use Rattle.std.proofs.Common.{rules}
use Rattle.report.proofs.Sequence.{then_wrote, stopped}
use Rattle.report.proofs.texts.write_explanation.Goals as goal

pub returns-in_err-write : goal.returns-in_err-write
returns-in_err-write g c = stopped g.K.Sink.written g.K.Sink.label g.K.Sink.faults g.K.Sink.steady _ _ c.in_err-write.field-0.0 _ _ _ _ (search rules) (search rules) c.write.ensures

pub returns-in_err-write_objects : goal.returns-in_err-write_objects
returns-in_err-write_objects g c = then_wrote g.K.Sink.written g.K.Sink.label g.K.Sink.faults g.K.Sink.steady _ _ _ _ _ _ _ _ (search rules) c.write.ensures (stopped g.K.Sink.written g.K.Sink.label g.K.Sink.faults g.K.Sink.steady _ _ c.in_err-write_objects.field-0.0 _ _ _ _ (search rules) (search rules) c.write_objects.ensures)

pub returns-in_err-write_left : goal.returns-in_err-write_left
returns-in_err-write_left g c = then_wrote g.K.Sink.written g.K.Sink.label g.K.Sink.faults g.K.Sink.steady _ _ _ _ _ _ _ _ (search rules) c.write.ensures (then_wrote g.K.Sink.written g.K.Sink.label g.K.Sink.faults g.K.Sink.steady _ _ _ _ _ _ _ _ (search rules) c.write_objects.ensures (stopped g.K.Sink.written g.K.Sink.label g.K.Sink.faults g.K.Sink.steady _ _ c.in_err-write_left.field-0.0 _ _ _ _ (search rules) (search rules) c.write_left.ensures))

pub returns : goal.returns
returns g c = then_wrote g.K.Sink.written g.K.Sink.label g.K.Sink.faults g.K.Sink.steady _ _ _ _ _ _ _ _ (search rules) c.write.ensures (then_wrote g.K.Sink.written g.K.Sink.label g.K.Sink.faults g.K.Sink.steady _ _ _ _ _ _ _ _ (search rules) c.write_objects.ensures (then_wrote g.K.Sink.written g.K.Sink.label g.K.Sink.faults g.K.Sink.steady _ _ _ _ _ _ _ _ (search rules) c.write_left.ensures c.write_right.ensures))

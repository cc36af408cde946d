use Rattle.std.proofs.Common.{rules}
use Rattle.report.proofs.Sequence.{then_wrote, stopped}
use Rattle.report.proofs.places.write_site_text.Goals as goal

pub returns-in_err-write_name : goal.returns-in_err-write_name
returns-in_err-write_name g c = stopped g.K.Sink.written g.K.Sink.label g.K.Sink.faults g.K.Sink.steady _ _ c.in_err-write_name.field-0.0 _ _ _ _ (search rules) (search rules) c.write_name.ensures

pub returns-in_err-write : goal.returns-in_err-write
returns-in_err-write g c = then_wrote g.K.Sink.written g.K.Sink.label g.K.Sink.faults g.K.Sink.steady _ _ _ _ _ _ _ _ (search rules) c.write_name.ensures (stopped g.K.Sink.written g.K.Sink.label g.K.Sink.faults g.K.Sink.steady _ _ c.in_err-write.field-0.0 _ _ _ _ (search rules) (search rules) c.write.ensures)

pub returns-in_err-write_site_place : goal.returns-in_err-write_site_place
returns-in_err-write_site_place g c = then_wrote g.K.Sink.written g.K.Sink.label g.K.Sink.faults g.K.Sink.steady _ _ _ _ _ _ _ _ (search rules) c.write_name.ensures (then_wrote g.K.Sink.written g.K.Sink.label g.K.Sink.faults g.K.Sink.steady _ _ _ _ _ _ _ _ (search rules) c.write.ensures (stopped g.K.Sink.written g.K.Sink.label g.K.Sink.faults g.K.Sink.steady _ _ c.in_err-write_site_place.field-0.0 _ _ _ _ (search rules) (search rules) c.write_site_place.ensures))

pub returns-in_err-write-2 : goal.returns-in_err-write-2
returns-in_err-write-2 g c = then_wrote g.K.Sink.written g.K.Sink.label g.K.Sink.faults g.K.Sink.steady _ _ _ _ _ _ _ _ (search rules) c.write_name.ensures (then_wrote g.K.Sink.written g.K.Sink.label g.K.Sink.faults g.K.Sink.steady _ _ _ _ _ _ _ _ (search rules) c.write.ensures (then_wrote g.K.Sink.written g.K.Sink.label g.K.Sink.faults g.K.Sink.steady _ _ _ _ _ _ _ _ (search rules) c.write_site_place.ensures (stopped g.K.Sink.written g.K.Sink.label g.K.Sink.faults g.K.Sink.steady _ _ c.in_err-write-2.field-0.0 _ _ _ _ (search rules) (search rules) c.write-2.ensures)))

pub returns : goal.returns
returns g c = then_wrote g.K.Sink.written g.K.Sink.label g.K.Sink.faults g.K.Sink.steady _ _ _ _ _ _ _ _ (search rules) c.write_name.ensures (then_wrote g.K.Sink.written g.K.Sink.label g.K.Sink.faults g.K.Sink.steady _ _ _ _ _ _ _ _ (search rules) c.write.ensures (then_wrote g.K.Sink.written g.K.Sink.label g.K.Sink.faults g.K.Sink.steady _ _ _ _ _ _ _ _ (search rules) c.write_site_place.ensures (then_wrote g.K.Sink.written g.K.Sink.label g.K.Sink.faults g.K.Sink.steady _ _ _ _ _ _ _ _ (search rules) c.write-2.ensures c.write_last_number.ensures)))

use Rattle.std.proofs.Common.{rules}
use Rattle.report.specs.declared.reply.LinePlace.{LinePlace}
use Rattle.report.specs.Texts.{line_line}
use Rattle.report.proofs.Sequence.{one_more, one_refused, all_done, wrote_none}
use Rattle.report.proofs.texts.write_each_line.Goals as goal

pub loop-place-init : goal.loop-place-init
loop-place-init g c = wrote_none g.K.Sink.written g.K.Sink.label g.K.Sink.faults g.K.Sink.steady _ _

pub returns-in_err-write_line : goal.returns-in_err-write_line
returns-in_err-write_line g c =
    one_refused g.K.Sink.written g.K.Sink.label g.K.Sink.faults g.K.Sink.steady (λ (l : LinePlace). line_line c.args.f.now l.method l.line) c.args.lines.now c.loop-place.place-index _ _ c.in_err-write_line.field-0.0 _ _ _ _ _
    (search rules) (search rules) (search rules) c.loop-place.invariant c.write_line.ensures

pub loop-place-preserved : goal.loop-place-preserved
loop-place-preserved g c =
    one_more g.K.Sink.written g.K.Sink.label g.K.Sink.faults g.K.Sink.steady (λ (l : LinePlace). line_line c.args.f.now l.method l.line) c.args.lines.now c.loop-place.place-index _ _ tt _ _ _ _
    (search rules) (search rules) c.loop-place.invariant c.write_line.ensures

pub returns : goal.returns
returns g c = all_done g.K.Sink.written g.K.Sink.label g.K.Sink.faults g.K.Sink.steady (λ (l : LinePlace). line_line c.args.f.now l.method l.line) c.args.lines.now c.loop-place.place-index _ _ _ (search rules) c.loop-place.invariant

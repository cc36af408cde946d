use Rattle.std.proofs.Common.{rules, arith}
use Rattle.slicer_ids.specs.Escapes.{printed_byte}
use Rattle.report.proofs.Sequence.{one_more, one_refused, all_done, wrote_none}
use Rattle.report.proofs.writing.write_escaped.Goals as goal

pub loop-byte-init : goal.loop-byte-init
loop-byte-init g c = wrote_none g.K.Sink.written g.K.Sink.label g.K.Sink.faults g.K.Sink.steady _ _

pub returns-in_err-write_byte : goal.returns-in_err-write_byte
returns-in_err-write_byte g c =
    one_refused g.K.Sink.written g.K.Sink.label g.K.Sink.faults g.K.Sink.steady printed_byte c.args.name.now c.loop-byte.byte-index 0 _ c.in_err-write_byte.field-0.0 _ _ _ _ _
    (search rules) (search rules) (search rules) c.loop-byte.invariant c.write_byte.ensures

pub loop-byte-preserved : goal.loop-byte-preserved
loop-byte-preserved g c =
    one_more g.K.Sink.written g.K.Sink.label g.K.Sink.faults g.K.Sink.steady printed_byte c.args.name.now c.loop-byte.byte-index 0 _ tt _ _ _ _
    (search rules) (search rules) c.loop-byte.invariant c.write_byte.ensures

pub returns : goal.returns
returns g c =
    all_done g.K.Sink.written g.K.Sink.label g.K.Sink.faults g.K.Sink.steady printed_byte c.args.name.now c.loop-byte.byte-index _ _ _ (search rules) c.loop-byte.invariant

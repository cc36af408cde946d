use Rattle.std.proofs.Common.{rules}
use Rattle.report.specs.Texts.{statement_line}
use Rattle.report.proofs.Sequence.{one_more, one_refused, all_done, wrote_none}
use Rattle.report.proofs.texts.write_each.Goals as goal

pub loop-s-init : goal.loop-s-init
loop-s-init g c = wrote_none g.K.Sink.written g.K.Sink.label g.K.Sink.faults g.K.Sink.steady _ _

pub returns-in_err-write_statement : goal.returns-in_err-write_statement
returns-in_err-write_statement g c =
    one_refused g.K.Sink.written g.K.Sink.label g.K.Sink.faults g.K.Sink.steady (statement_line c.args.f.now) c.args.statements.now c.loop-s.s-index _ _ c.in_err-write_statement.field-0.0 _ _ _ _ _
    (search rules) (search rules) (search rules) c.loop-s.invariant c.write_statement.ensures

pub loop-s-preserved : goal.loop-s-preserved
loop-s-preserved g c =
    one_more g.K.Sink.written g.K.Sink.label g.K.Sink.faults g.K.Sink.steady (statement_line c.args.f.now) c.args.statements.now c.loop-s.s-index _ _ tt _ _ _ _
    (search rules) (search rules) c.loop-s.invariant c.write_statement.ensures

pub returns : goal.returns
returns g c = all_done g.K.Sink.written g.K.Sink.label g.K.Sink.faults g.K.Sink.steady (statement_line c.args.f.now) c.args.statements.now c.loop-s.s-index _ _ _ (search rules) c.loop-s.invariant

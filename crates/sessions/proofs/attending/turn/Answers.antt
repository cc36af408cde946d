use Rattle.std.proofs.Common.{refl, arith}
use Rattle.sessions.proofs.Answering.{pass_itself, view_itself}
use Rattle.summary_memo.specs.Memo.{view_of}
use Rattle.sessions.proofs.ScriptReplies.{cause_line, cause_last, cause_long, sink_itself}
use Rattle.sessions.proofs.Serving.{serves_line, serves_last, serves_end, serves_too_long, serves_fault}
use Rattle.sessions.proofs.attending.turn.Goals as goal

pub returns-in-Line-clause-served : goal.returns-in-Line-clause-served
returns-in-Line-clause-served g c = λ script start h.
    let left = g.S.Source.left in
    let written = g.K.Sink.written in
    let z = c.take_line.new in
    let is = c.take_line.ensures in
    serves_line c.args.shared.now.facts script start c.args.reader.now (left c.args.source.now) c.args.session.now (written c.args.sink.now) c.args.count.now h c.next.new.self (left c.next.new.source) c.line.result.now z.session (written z.sink) z.count (g.K.Sink.faults c.args.sink.now) (g.K.Sink.faults z.sink) c.take_line.result (c.in-Line.ensures.comes script h.replied.lines h.replied.between) c.line.ensures is.keeps is.knows is.needed is.told

pub returns-in-Last-clause-served : goal.returns-in-Last-clause-served
returns-in-Last-clause-served g c = λ script start h.
    let left = g.S.Source.left in
    let written = g.K.Sink.written in
    let z = c.take_last.new in
    let is = c.take_last.ensures in
    serves_last c.args.shared.now.facts script start c.args.reader.now (left c.args.source.now) c.args.session.now (written c.args.sink.now) c.args.count.now h c.next.new.self (left c.next.new.source) c.line-in-Last.result.now z.session (written z.sink) (g.K.Sink.faults c.args.sink.now) (g.K.Sink.faults z.sink) c.take_last.result (c.in-Last.ensures.comes script h.replied.lines h.replied.between) c.line-in-Last.ensures is.keeps is.knows is.needed is.told

pub returns-in-End-clause-served : goal.returns-in-End-clause-served
returns-in-End-clause-served g c = λ script start h.
    let left = g.S.Source.left in
    let written = g.K.Sink.written in
    serves_end c.args.shared.now.facts script start c.args.reader.now (left c.args.source.now) c.args.session.now (written c.args.sink.now) c.args.count.now h c.next.new.self (left c.next.new.source) (c.in-End.ensures.comes script h.replied.lines h.replied.between)

pub returns-in-TooLong-clause-served : goal.returns-in-TooLong-clause-served
returns-in-TooLong-clause-served g c = λ script start h.
    let left = g.S.Source.left in
    let written = g.K.Sink.written in
    serves_too_long c.args.shared.now.facts script start c.args.reader.now (left c.args.source.now) c.args.session.now (written c.args.sink.now) c.args.count.now h c.next.new.self (left c.next.new.source) (written c.too_long.new.sink) (g.K.Sink.faults c.args.sink.now) (g.K.Sink.faults c.too_long.new.sink) c.too_long.result (c.in-TooLong.ensures.comes script h.replied.lines h.replied.between) c.too_long.ensures.told

pub returns-in-Fault-clause-served : goal.returns-in-Fault-clause-served
returns-in-Fault-clause-served g c = λ script start h.
    let left = g.S.Source.left in
    let written = g.K.Sink.written in
    serves_fault c.args.shared.now.facts script start c.args.reader.now (left c.args.source.now) c.args.session.now (written c.args.sink.now) c.args.count.now h (left c.next.new.source)

pub returns-in-End-clause-keeps : goal.returns-in-End-clause-keeps
returns-in-End-clause-keeps g c = pass_itself c.args.session.now.pass

pub returns-in-End-clause-knows : goal.returns-in-End-clause-knows
returns-in-End-clause-knows g c = view_itself (view_of c.args.session.now.seat)

pub returns-in-TooLong-clause-keeps : goal.returns-in-TooLong-clause-keeps
returns-in-TooLong-clause-keeps g c = pass_itself c.args.session.now.pass

pub returns-in-TooLong-clause-knows : goal.returns-in-TooLong-clause-knows
returns-in-TooLong-clause-knows g c = view_itself (view_of c.args.session.now.seat)

pub returns-in-Fault-clause-keeps : goal.returns-in-Fault-clause-keeps
returns-in-Fault-clause-keeps g c = pass_itself c.args.session.now.pass

pub returns-in-Fault-clause-knows : goal.returns-in-Fault-clause-knows
returns-in-Fault-clause-knows g c = view_itself (view_of c.args.session.now.seat)

pub take_line-requires-clause-count : goal.take_line-requires-clause-count
take_line-requires-clause-count g c = omega (arith, c.requires.count, c.args.reader.now.few_bytes)

pub take_last-requires-clause-count : goal.take_last-requires-clause-count
take_last-requires-clause-count g c = omega (arith, c.requires.count, c.args.reader.now.few_bytes)

pub too_long-requires : goal.too_long-requires
too_long-requires g c = omega (arith, c.requires.count, c.args.reader.now.few_bytes)

pub returns-in-Line-clause-cause : goal.returns-in-Line-clause-cause
returns-in-Line-clause-cause g c =
    let written = g.K.Sink.written in
    let z = c.take_line.new in
    cause_line c.args.shared.now.facts c.line.result.now c.args.session.now.state z.session.state (written c.args.sink.now) (written z.sink) c.args.count.now z.count (g.S.Source.faults c.args.source.now) (g.S.Source.faults c.next.new.source) (g.K.Sink.faults c.args.sink.now) (g.K.Sink.faults z.sink) c.take_line.result c.take_line.ensures.told

pub returns-in-Line-clause-on : goal.returns-in-Line-clause-on
returns-in-Line-clause-on g c = λ e. c.in-Line.ensures.line refl

pub returns-in-Line-clause-count : goal.returns-in-Line-clause-count
returns-in-Line-clause-count g c = λ e. omega (arith, c.requires.count, c.take_line.ensures.count, c.in-Line.ensures.line refl)

pub returns-in-Last-clause-cause : goal.returns-in-Last-clause-cause
returns-in-Last-clause-cause g c =
    let written = g.K.Sink.written in
    let z = c.take_last.new in
    cause_last c.args.shared.now.facts c.line-in-Last.result.now c.args.session.now.state (written c.args.sink.now) (written z.sink) c.args.count.now (g.S.Source.faults c.args.source.now) (g.S.Source.faults c.next.new.source) (g.K.Sink.faults c.args.sink.now) (g.K.Sink.faults z.sink) c.take_last.result c.take_last.ensures.told

pub returns-in-End-clause-sink : goal.returns-in-End-clause-sink
returns-in-End-clause-sink g c = sink_itself g.K.Sink.written g.K.Sink.label g.K.Sink.faults g.K.Sink.steady c.args.sink.now

pub returns-in-TooLong-clause-cause : goal.returns-in-TooLong-clause-cause
returns-in-TooLong-clause-cause g c =
    let written = g.K.Sink.written in
    let z = c.too_long.new in
    cause_long c.args.shared.now.facts (written c.args.sink.now) (written z.sink) c.args.count.now (g.S.Source.faults c.args.source.now) (g.S.Source.faults c.next.new.source) (g.K.Sink.faults c.args.sink.now) (g.K.Sink.faults z.sink) c.too_long.result c.too_long.ensures.told

pub returns-in-Fault-clause-cause : goal.returns-in-Fault-clause-cause
returns-in-Fault-clause-cause g c = c.in-Fault.ensures.fault refl

pub returns-in-Fault-clause-sink : goal.returns-in-Fault-clause-sink
returns-in-Fault-clause-sink g c = sink_itself g.K.Sink.written g.K.Sink.label g.K.Sink.faults g.K.Sink.steady c.args.sink.now

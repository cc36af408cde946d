use Rattle.sessions.proofs.LineReplies.{command_told, command_part, refusal_told, refusal_part}
use Rattle.std.proofs.Common.{◌≡◌}
use Rattle.edge_io.specs.Reads.{appended}
use Rattle.report.specs.declared.reply.CommandError.{CommandError}
use Rattle.report.specs.Replies.{Error, text}
use Rattle.summary_memo.specs.Memo.{view_of}
use Rattle.sessions.proofs.Answering.{pass_itself, view_itself}
use Rattle.sessions.proofs.Serving.{command_has, refusal_has}
use Rattle.sessions.proofs.replying.answer_line.Goals as goal

pub returns-in-Ok-clause-told : goal.returns-in-Ok-clause-told
returns-in-Ok-clause-told g c = command_told c.args.shared.now.facts c.args.line.now c.args.session.now.state c.reply_to.new.session.state (g.K.Sink.written c.args.sink.now) (g.K.Sink.written c.reply_to.new.sink) c.in-Ok.command c.reply_to.result c.in-Ok.ensures c.reply_to.ensures.blank c.reply_to.ensures.told

pub returns-in-Ok-clause-part : goal.returns-in-Ok-clause-part
returns-in-Ok-clause-part g c = command_part c.args.shared.now.facts c.args.line.now c.args.session.now.state c.reply_to.new.session.state (g.K.Sink.written c.args.sink.now) (g.K.Sink.written c.reply_to.new.sink) c.in-Ok.command c.reply_to.result c.in-Ok.ensures c.reply_to.ensures.blank c.reply_to.ensures.part

pub returns-in-Err-clause-told : goal.returns-in-Err-clause-told
returns-in-Err-clause-told g c = refusal_told c.args.shared.now.facts c.args.line.now c.args.session.now.state (g.K.Sink.written c.args.sink.now) (g.K.Sink.written c.refuse.new.sink) c.in-Err.error c.refuse.result c.in-Err.ensures c.refuse.ensures.untold c.refuse.ensures.told

pub returns-in-Err-clause-part : goal.returns-in-Err-clause-part
returns-in-Err-clause-part g c = refusal_part c.args.shared.now.facts c.args.line.now c.args.session.now.state (g.K.Sink.written c.args.sink.now) (g.K.Sink.written c.refuse.new.sink) c.in-Err.error c.refuse.result c.in-Err.ensures c.refuse.ensures.untold c.refuse.ensures.part

pub returns-in-Ok-clause-needed : goal.returns-in-Ok-clause-needed
returns-in-Ok-clause-needed g c =
    let s = c.reply_to.new.session in
    command_has c.args.shared.now.facts c.args.line.now c.args.session.now.state s.pass (view_of s.seat) c.in-Ok.command c.reply_to.result c.in-Ok.ensures c.reply_to.ensures.needed

pub returns-in-Err-clause-needed : goal.returns-in-Err-clause-needed
returns-in-Err-clause-needed g c =
    let f = c.args.shared.now.facts in
    let s = c.args.session.now in
    refusal_has f c.args.line.now s.state s.pass (view_of s.seat) c.in-Err.error c.refuse.result (λ (e : CommandError). g.K.Sink.written c.refuse.new.sink ≡ appended (text f (Error e)) (g.K.Sink.written c.args.sink.now)) c.in-Err.ensures c.refuse.ensures.told

pub returns-in-Err-clause-keeps : goal.returns-in-Err-clause-keeps
returns-in-Err-clause-keeps g c = pass_itself c.args.session.now.pass

pub returns-in-Err-clause-knows : goal.returns-in-Err-clause-knows
returns-in-Err-clause-knows g c = view_itself (view_of c.args.session.now.seat)

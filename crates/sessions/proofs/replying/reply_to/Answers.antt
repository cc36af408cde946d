use Rattle.summary_memo.specs.Memo.{view_of}
use Rattle.sessions.proofs.ScriptReplies.{sink_itself}
use Rattle.sessions.proofs.Answering.{pass_itself, view_itself}
use Rattle.sessions.proofs.replying.reply_to.Goals as goal

pub returns-in-Blank-clause-keeps : goal.returns-in-Blank-clause-keeps
returns-in-Blank-clause-keeps g c = pass_itself c.args.session.now.pass

pub returns-in-Blank-clause-knows : goal.returns-in-Blank-clause-knows
returns-in-Blank-clause-knows g c = view_itself (view_of c.args.session.now.seat)

pub returns-in-Blank-clause-sink : goal.returns-in-Blank-clause-sink
returns-in-Blank-clause-sink g c = sink_itself g.K.Sink.written g.K.Sink.label g.K.Sink.faults g.K.Sink.steady c.args.sink.now

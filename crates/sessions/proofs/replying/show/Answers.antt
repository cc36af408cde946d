use Rattle.std.proofs.Common.{refl, inl}
use Rattle.session_form.proofs.OfFacts.{of_facts}
use Rattle.sessions.specs.Needed.{HasForReply}
use Rattle.sessions.specs.Sessions.{answer_in}
use Rattle.summary_memo.specs.Memo.{view_of}
use Rattle.edge_io.specs.Faults.{Rose}
use Rattle.sessions.proofs.ScriptReplies.{appended_none, sink_itself}
use Rattle.sessions.proofs.OneShown.{on_ok, no_fault_here, said_whole, said_part}
use Rattle.sessions.proofs.replying.show.Goals as goal

pub say-requires : goal.say-requires
say-requires g c = of_facts c.args.shared.now.facts c.requires.listed c.in-Ok.ensures.answer

pub returns-in-Ok-clause-told : goal.returns-in-Ok-clause-told
returns-in-Ok-clause-told g c =
    let s = c.answer.new.self in
    said_whole c.args.shared.now.facts c.args.session.now.state c.args.command.now (answer_in s) s.state c.in-Ok.ensures.answer (g.K.Sink.written c.args.sink.now) (g.K.Sink.written c.say.new.sink) c.say.result c.say.ensures.told

pub returns-in-Ok-clause-part : goal.returns-in-Ok-clause-part
returns-in-Ok-clause-part g c =
    let s = c.answer.new.self in
    said_part c.args.shared.now.facts c.args.session.now.state c.args.command.now (answer_in s) s.state c.in-Ok.ensures.answer (g.K.Sink.written c.args.sink.now) (g.K.Sink.written c.say.new.sink) c.say.result c.say.ensures.part

pub returns-in-Ok-clause-needed : goal.returns-in-Ok-clause-needed
returns-in-Ok-clause-needed g c =
    let s = c.answer.new.self in
    on_ok c.say.result (HasForReply c.args.shared.now.facts c.args.session.now.state c.args.command.now s.pass (view_of s.seat)) c.in-Ok.ensures.needed

pub returns-in-Err-clause-part : goal.returns-in-Err-clause-part
returns-in-Err-clause-part g c = λ a after is. (0, inl refl, appended_none (g.K.Sink.written c.args.sink.now))

pub returns-in-Err-clause-sink : goal.returns-in-Err-clause-sink
returns-in-Err-clause-sink g c = sink_itself g.K.Sink.written g.K.Sink.label g.K.Sink.faults g.K.Sink.steady c.args.sink.now

pub returns-in-Err-clause-fault : goal.returns-in-Err-clause-fault
returns-in-Err-clause-fault g c = no_fault_here (Rose (g.K.Sink.faults c.args.sink.now) (g.K.Sink.faults c.args.sink.now))

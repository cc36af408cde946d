use Rattle.std.proofs.Common.{refl, inl, subst}
use Rattle.edge_io.specs.Faults.{Rose}
use Rattle.script.specs.declared.command.LineError.{LineError}
use Rattle.session_form.specs.Scripts.{IsRefusal}
use Rattle.sessions.proofs.ScriptReplies.{appended_none, sink_itself}
use Rattle.sessions.proofs.LineReplies.{never_refused}
use Rattle.sessions.proofs.OneShown.{refused_whole, refused_part, no_fault_here}
use Rattle.sessions.proofs.replying.refuse.Goals as goal

pub returns-in-Some-clause-told : goal.returns-in-Some-clause-told
returns-in-Some-clause-told g c = refused_whole c.args.f.now c.args.error c.in-Some.reason c.in-Some.ensures (g.K.Sink.written c.args.sink.now) (g.K.Sink.written c.write_error.new.sink) c.write_error.result c.write_error.ensures.told

pub returns-in-Some-clause-part : goal.returns-in-Some-clause-part
returns-in-Some-clause-part g c = refused_part c.args.f.now c.args.error c.in-Some.reason c.in-Some.ensures (g.K.Sink.written c.args.sink.now) (g.K.Sink.written c.write_error.new.sink) c.write_error.result c.write_error.ensures.part

pub returns-in-Some-clause-untold : goal.returns-in-Some-clause-untold
returns-in-Some-clause-untold g c = λ nil. absurd (never_refused c.in-Some.reason (subst (λ (x : LineError). IsRefusal x c.in-Some.reason) nil c.in-Some.ensures))

pub returns-in-None-clause-part : goal.returns-in-None-clause-part
returns-in-None-clause-part g c = λ e is. (0, inl refl, appended_none (g.K.Sink.written c.args.sink.now))

pub returns-in-None-clause-sink : goal.returns-in-None-clause-sink
returns-in-None-clause-sink g c = sink_itself g.K.Sink.written g.K.Sink.label g.K.Sink.faults g.K.Sink.steady c.args.sink.now

pub returns-in-None-clause-fault : goal.returns-in-None-clause-fault
returns-in-None-clause-fault g c = no_fault_here (Rose (g.K.Sink.faults c.args.sink.now) (g.K.Sink.faults c.args.sink.now))

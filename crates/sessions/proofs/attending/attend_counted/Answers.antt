use Rattle.std.proofs.Common.{◌≡◌, ◌∙◌, List, refl, sym, subst, arith}
use Rattle.summary_memo.specs.Memo.{view_of}
use Rattle.session_walk.proofs.Going.{keeps_all, knows_all}
use Rattle.sessions.proofs.Answering.{pass_itself, view_itself}
use Rattle.sessions.proofs.ScriptReplies.{cause_later, sink_itself, sink_later}
use Rattle.sessions.proofs.Serving.{first_served}
use Rattle.sessions.proofs.attending.attend_counted.Goals as goal

pub loop-outcome-init : goal.loop-outcome-init
loop-outcome-init g c = record {
  session = c.requires.fresh.session;
  keeps = pass_itself c.args.desk.now.session.pass;
  knows = view_itself (view_of c.args.desk.now.session.seat);
  count = omega arith;
  served = λ script start h. h;
  sink = sink_itself g.K.Sink.written g.K.Sink.label g.K.Sink.faults g.K.Sink.steady c.args.desk.now.sink;
  source = omega arith;
  as_steady = refl;
  still = λ s. refl;
}

pub loop-outcome-preserved : goal.loop-outcome-preserved
loop-outcome-preserved g c =
    let v = c.loop-outcome.invariant in
    record {
      session = c.turn.ensures.session;
      keeps = keeps_all c.args.desk.now.session.pass c.loop-outcome.desk.session.pass c.turn.new.session.pass v.keeps c.turn.ensures.keeps;
      knows = knows_all (view_of c.args.desk.now.session.seat) (view_of c.loop-outcome.desk.session.seat) (view_of c.turn.new.session.seat) v.knows c.turn.ensures.knows;
      count = c.turn.ensures.count c.in_default.is;
      served = λ script start h. c.in_default.ensures.served script start (v.served script start h);
      sink = sink_later g.K.Sink.written g.K.Sink.label g.K.Sink.faults g.K.Sink.steady c.args.desk.now.sink c.loop-outcome.desk.sink c.turn.new.sink v.sink c.turn.ensures.sink;
      source = omega (arith, v.source, c.turn.ensures.source);
      as_steady = c.turn.ensures.steady ∙ v.as_steady;
      still = λ s. c.turn.ensures.still (v.as_steady ∙ s) ∙ v.still s;
    }

pub returns-in-Some-clause-keeps : goal.returns-in-Some-clause-keeps
returns-in-Some-clause-keeps g c = keeps_all c.args.desk.now.session.pass c.loop-outcome.desk.session.pass c.turn.new.session.pass c.loop-outcome.invariant.keeps c.turn.ensures.keeps

pub returns-in-Some-clause-knows : goal.returns-in-Some-clause-knows
returns-in-Some-clause-knows g c = knows_all (view_of c.args.desk.now.session.seat) (view_of c.loop-outcome.desk.session.seat) (view_of c.turn.new.session.seat) c.loop-outcome.invariant.knows c.turn.ensures.knows

pub returns-in-Some-clause-ended : goal.returns-in-Some-clause-ended
returns-in-Some-clause-ended g c = λ script told.
    let d = c.args.desk.now in
    let w = g.K.Sink.written d.sink in
    let fresh = c.requires.fresh in
    (c.in-Some.ensures.served script w (c.loop-outcome.invariant.served script w (first_served c.args.shared.now.facts script d.reader (g.S.Source.left d.source) d.session w fresh.state told fresh.reader))).ended

pub returns-in-Some-clause-read : goal.returns-in-Some-clause-read
returns-in-Some-clause-read g c = λ script told.
    let d = c.args.desk.now in
    let w = g.K.Sink.written d.sink in
    let fresh = c.requires.fresh in
    (c.in-Some.ensures.served script w (c.loop-outcome.invariant.served script w (first_served c.args.shared.now.facts script d.reader (g.S.Source.left d.source) d.session w fresh.state told fresh.reader))).read

pub returns-in-Some-clause-served : goal.returns-in-Some-clause-served
returns-in-Some-clause-served g c = λ script told.
    let d = c.args.desk.now in
    let w = g.K.Sink.written d.sink in
    let fresh = c.requires.fresh in
    (c.in-Some.ensures.served script w (c.loop-outcome.invariant.served script w (first_served c.args.shared.now.facts script d.reader (g.S.Source.left d.source) d.session w fresh.state told fresh.reader))).served

pub returns-in-Some-clause-cause : goal.returns-in-Some-clause-cause
returns-in-Some-clause-cause g c =
    let v = c.loop-outcome.invariant in
    cause_later c.in-Some.outcome (g.S.Source.faults c.args.desk.now.source) (g.S.Source.faults c.loop-outcome.desk.source) (g.S.Source.faults c.turn.new.source)
    (g.K.Sink.faults c.args.desk.now.sink) (g.K.Sink.faults c.loop-outcome.desk.sink) (g.K.Sink.faults c.turn.new.sink) v.source v.sink.count c.in-Some.ensures.cause

pub returns-in-Some-clause-sink : goal.returns-in-Some-clause-sink
returns-in-Some-clause-sink g c = sink_later g.K.Sink.written g.K.Sink.label g.K.Sink.faults g.K.Sink.steady c.args.desk.now.sink c.loop-outcome.desk.sink c.turn.new.sink c.loop-outcome.invariant.sink c.turn.ensures.sink

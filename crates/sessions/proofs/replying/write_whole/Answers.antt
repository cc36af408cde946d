use Rattle.std.proofs.Common.{refl, ap, take, Err}
use Rattle.edge_io.specs.declared.sink.SinkError.{SinkError}
use Rattle.report.specs.Replies.{answer_of, text}
use Rattle.sessions.proofs.replying.write_whole.Goals as goal

pub returns-in-Ok-clause-told : goal.returns-in-Ok-clause-told
returns-in-Ok-clause-told g c = (refl, c.in-Ok.ensures.whole)

pub returns-in-Ok-clause-sink : goal.returns-in-Ok-clause-sink
returns-in-Ok-clause-sink g c = record {
  more = (text c.args.f.now (answer_of c.args.reply.now), c.in-Ok.ensures.whole);
  label = c.write_reply.ensures.label;
  count = c.write_reply.ensures.count;
  steady = c.write_reply.ensures.steady;
  still = c.write_reply.ensures.still;
}

pub returns-in-Err-clause-sink : goal.returns-in-Err-clause-sink
returns-in-Err-clause-sink g c = record {
  more = (take c.in-Err.ensures.part.0 (text c.args.f.now (answer_of c.args.reply.now)), c.in-Err.ensures.part.2);
  label = c.write_reply.ensures.label;
  count = c.write_reply.ensures.count;
  steady = c.write_reply.ensures.steady;
  still = c.write_reply.ensures.still;
}

pub returns-in-Err-clause-fault : goal.returns-in-Err-clause-fault
returns-in-Err-clause-fault g c = λ e. c.in-Err.ensures.fault (ap (λ (x : SinkError). Err x) e)

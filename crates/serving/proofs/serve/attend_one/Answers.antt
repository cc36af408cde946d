use Rattle.serving.proofs.Attending.{sure_read, sure_write}
use Rattle.serving.proofs.serve.attend_one.Goals as goal

pub returns : goal.returns
returns g c =
    let d = c.args.desk.now in
    let e = c.attend.new.desk in
    let a = c.attend.ensures in
    record {
      how = c.attend.result;
      outcome = a.outcome;
      session = a.session;
      keeps = a.keeps;
      knows = a.knows;
      ended = a.ended;
      all_read = a.read;
      served = a.served;
      cause = a.cause;
      sure_read = λ s. sure_read c.attend.result (g.S.Source.faults d.source) (g.S.Source.faults e.source) (g.K.Sink.faults d.sink) (g.K.Sink.faults e.sink) (a.still s) (g.met.S.Source.steady_below d.source s) a.cause;
      sure_write = λ t. sure_write c.attend.result (g.S.Source.faults d.source) (g.S.Source.faults e.source) (g.K.Sink.faults d.sink) (g.K.Sink.faults e.sink) (a.sink.still t) (g.met.K.Sink.steady_below d.sink t) a.cause;
      of_source = record { count = a.source; steady = a.steady; still = a.still };
      of_sink = a.sink;
    }

use Rattle.sessions.proofs.ScriptReplies.{no_fault}
use Rattle.sessions.proofs.attending.attend.Goals as goal

pub returns-clause-sure : goal.returns-clause-sure
returns-clause-sure g c = λ s t.
    let d = c.args.desk.now in
    let e = c.attend_counted-outcome.new.desk in
    no_fault c.attend_counted-outcome.result (g.S.Source.faults d.source) (g.S.Source.faults e.source) (g.K.Sink.faults d.sink) (g.K.Sink.faults e.sink)
    (c.attend_counted-outcome.ensures.still s) (c.attend_counted-outcome.ensures.sink.still t) (g.met.S.Source.steady_below d.source s) (g.met.K.Sink.steady_below d.sink t) c.attend_counted-outcome.ensures.cause

use Rattle.serving.proofs.EmptyOutputs.{created_still}
use Rattle.serving.proofs.ends.close_empty.Goals as goal

pub returns-clause-files : goal.returns-clause-files
returns-clause-files g c = λ files steadiness scripts made created.
    created_still g.H.Out.Sink.written g.H.Out.Sink.label g.H.Out.Sink.steady files steadiness scripts c.args.sinks.items (g.H.Host.files c.args.host.now) (g.H.Host.files c.close_all.new.host) made created c.close_all.ensures.kept

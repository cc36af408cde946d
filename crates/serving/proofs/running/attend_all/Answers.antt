use Rattle.serving.proofs.ServedScripts.{gave_up}
use Rattle.serving.proofs.running.attend_all.Goals as goal

pub returns-in-Err-clause-ran : goal.returns-in-Err-clause-ran
returns-in-Err-clause-ran g c = λ files scripts ready.
    let host = g.H.Host in
    let source = g.H.In.Source in
    let sink = g.H.Out.Sink in
    let old = c.args.host.now in
    let new = c.close_empty.new.host in
    let k = c.close_empty.ensures in
    gave_up source.left source.steady sink.written sink.label sink.steady c.args.shared.now.facts files (host.files old) (host.files new) (host.said old) (host.said new) (host.source_steady old) (host.sink_steady old) (host.steady old) scripts
    c.args.ends.sources.items c.args.ends.sinks.items ready (k.files files (host.sink_steady old) scripts ready.are_made ready.created) k.said

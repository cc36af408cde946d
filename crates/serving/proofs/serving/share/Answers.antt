use Rattle.std.proofs.Common.{subst, sym}
use Rattle.dep_form.specs.declared.facts.Facts.{Facts}
use Rattle.session_form.specs.States.{AreListed}
use Rattle.serving.proofs.ServedScripts.{gave_up}
use Rattle.serving.proofs.serving.share.Goals as goal

pub attend_all-requires-clause-listed : goal.attend_all-requires-clause-listed
attend_all-requires-clause-listed g c κs within = subst (λ (f : Facts). AreListed f) (sym c.in-Ok.ensures.facts) c.requires.listed

pub returns-in-Err-clause-ran : goal.returns-in-Err-clause-ran
returns-in-Err-clause-ran g c = λ files scripts ready.
    let host = g.H.Host in
    let source = g.H.In.Source in
    let sink = g.H.Out.Sink in
    let old = c.args.host.now in
    let new = c.close_empty.new.host in
    let k = c.close_empty.ensures in
    gave_up source.left source.steady sink.written sink.label sink.steady c.args.facts files (host.files old) (host.files new) (host.said old) (host.said new) (host.source_steady old) (host.sink_steady old) (host.steady old) scripts
    c.args.ends.sources.items c.args.ends.sinks.items ready (k.files files (host.sink_steady old) scripts ready.are_made ready.created) k.said

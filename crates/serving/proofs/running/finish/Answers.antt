use Rattle.std.proofs.Common.{◌∙◌}
use Rattle.folder_reader.proofs.Kept.{goes_then}
use Rattle.serving.proofs.FinishedRun.{ran_on, rose_on}
use Rattle.serving.proofs.running.finish.Goals as goal

pub returns-clause-ran : goal.returns-clause-ran
returns-clause-ran g c = λ f files sources outputs scripts h.
    let host = g.H.Host in
    let sink = g.H.Out.Sink in
    let old = c.args.host.now in
    let mid = c.close_all-all_closed.new.host in
    let new = c.conclude.new.host in
    let k = c.close_all-all_closed.ensures in
    let e = c.conclude.ensures in
    ran_on sink.written sink.label f sources outputs scripts c.args.outcomes.now c.args.sinks.items c.ended_sessions_keep_files.ensures.kept files (host.files old) (host.files mid) (host.files new)
    (host.said old) (host.said mid) (host.said new) (host.steady old) c.close_all-all_closed.result c.conclude.result h e.files k.said k.closed k.kept k.sure e.says e.closed (λ s a. e.sure (k.goes.same_host ∙ s) a)

pub returns-clause-fault : goal.returns-clause-fault
returns-clause-fault g c = λ three.
    let host = g.H.Host in
    let k = c.close_all-all_closed.ensures in
    let e = c.conclude.ensures in
    rose_on (host.faults c.args.host.now) (host.faults c.close_all-all_closed.new.host) (host.faults c.conclude.new.host) c.close_all-all_closed.result k.goes.count e.goes.count k.fault (e.fault three)

pub returns-clause-goes : goal.returns-clause-goes
returns-clause-goes g c =
    let host = g.H.Host in
    goes_then host.faults host.steady host.source_steady host.sink_steady c.args.host.now c.close_all-all_closed.new.host c.conclude.new.host c.close_all-all_closed.ensures.goes c.conclude.ensures.goes

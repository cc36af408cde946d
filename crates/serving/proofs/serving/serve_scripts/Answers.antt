use Rattle.std.proofs.Common.{rules, ◌≡◌, ◌≤◌, ◌∙◌, ℕ, List, [], length, Option, inl, inr, refl, sym, ap, subst, arith}
use Rattle.edge_io.specs.Reads.{appended}
use Rattle.folder_reader.proofs.Kept.{goes_then}
use Rattle.edge_io.specs.Files.{Files}
use Rattle.serving.specs.Served.{KeepsPaths}
use Rattle.serving.proofs.Places.{paired_length}
use Rattle.serving.proofs.SaidLines.{said_nothing}
use Rattle.serving.proofs.ServedScripts.{kind, served_to, not_steady, path_fails, not_three, ready_on, ran_before, rose_later, rose_then, fault_kind, never_whole}
use Rattle.serving.proofs.serving.serve_scripts.Goals as goal

pub share-requires-clause-pairs : goal.share-requires-clause-pairs
share-requires-clause-pairs g c = let r = c.in-Ok.ensures.ready in
    let pairs : length c.in-Ok.ends.sources.items ≡ length c.in-Ok.ends.sinks.items = paired_length r.are_opened ∙ sym (paired_length r.are_made) in
    search rules

pub share-requires-clause-few : goal.share-requires-clause-few
share-requires-clause-few g c = let r = c.in-Ok.ensures.ready in
    let few : length c.in-Ok.ends.sinks.items ≤ 64 = omega (arith, c.requires.scripts.few, paired_length r.are_made) in
    search rules

pub returns-in-Ok-clause-kinds : goal.returns-in-Ok-clause-kinds
returns-in-Ok-clause-kinds g c =
    let host = g.H.Host in
    let source = g.H.In.Source in
    let sink = g.H.Out.Sink in
    let old = c.args.host.now in
    let mid = c.open_ends.new.host in
    let new = c.share.new.host in
    let scripts = c.args.scripts.now in
    let facts = c.args.facts in
    let status = c.share.result in
    let e = c.in-Ok.ensures in
    let ready = ready_on source.left source.steady sink.written sink.label sink.steady (host.files old) (host.files mid) (host.source_steady old) (host.source_steady mid) (host.sink_steady old) (host.sink_steady mid) scripts
    c.in-Ok.ends.sources.items c.in-Ok.ends.sinks.items e.goes.same_sources e.goes.same_sinks e.ready in
    let r = ran_before facts (host.files old) (host.files new) (host.said old) (host.said mid) (host.said new) (host.source_steady old) (host.source_steady mid) (host.sink_steady old) (host.sink_steady mid) (host.steady old) (host.steady mid) scripts status
    e.said e.goes.same_sources e.goes.same_sinks e.goes.same_host (c.share.ensures.ran (host.files old) scripts ready) in
    kind facts (host.files old) (host.files new) (host.source_steady old) (host.sink_steady old) scripts status r.says.0 r.says.2

pub returns-in-Ok-clause-done : goal.returns-in-Ok-clause-done
returns-in-Ok-clause-done g c =
    let host = g.H.Host in
    let source = g.H.In.Source in
    let sink = g.H.Out.Sink in
    let old = c.args.host.now in
    let mid = c.open_ends.new.host in
    let new = c.share.new.host in
    let scripts = c.args.scripts.now in
    let facts = c.args.facts in
    let status = c.share.result in
    let e = c.in-Ok.ensures in
    let ready = ready_on source.left source.steady sink.written sink.label sink.steady (host.files old) (host.files mid) (host.source_steady old) (host.source_steady mid) (host.sink_steady old) (host.sink_steady mid) scripts
    c.in-Ok.ends.sources.items c.in-Ok.ends.sinks.items e.goes.same_sources e.goes.same_sinks e.ready in
    let r = ran_before facts (host.files old) (host.files new) (host.said old) (host.said mid) (host.said new) (host.source_steady old) (host.source_steady mid) (host.sink_steady old) (host.sink_steady mid) (host.steady old) (host.steady mid) scripts status
    e.said e.goes.same_sources e.goes.same_sinks e.goes.same_host (c.share.ensures.ran (host.files old) scripts ready) in
    served_to facts (host.files old) (host.files new) (host.said old) (host.said new) (host.source_steady old) (host.sink_steady old) scripts status r.says.0 r.says.2 r.says.1 e.ready.free

pub returns-in-Ok-clause-ends : goal.returns-in-Ok-clause-ends
returns-in-Ok-clause-ends g c =
    let host = g.H.Host in
    let source = g.H.In.Source in
    let sink = g.H.Out.Sink in
    let old = c.args.host.now in
    let mid = c.open_ends.new.host in
    let new = c.share.new.host in
    let scripts = c.args.scripts.now in
    let facts = c.args.facts in
    let status = c.share.result in
    let e = c.in-Ok.ensures in
    let ready = ready_on source.left source.steady sink.written sink.label sink.steady (host.files old) (host.files mid) (host.source_steady old) (host.source_steady mid) (host.sink_steady old) (host.sink_steady mid) scripts
    c.in-Ok.ends.sources.items c.in-Ok.ends.sinks.items e.goes.same_sources e.goes.same_sinks e.ready in
    let r = ran_before facts (host.files old) (host.files new) (host.said old) (host.said mid) (host.said new) (host.source_steady old) (host.source_steady mid) (host.sink_steady old) (host.sink_steady mid) (host.steady old) (host.steady mid) scripts status
    e.said e.goes.same_sources e.goes.same_sinks e.goes.same_host (c.share.ensures.ran (host.files old) scripts ready) in
    not_steady facts (host.files old) (host.files new) (host.source_steady old) (host.sink_steady old) scripts status r.says.0 r.says.2

pub returns-clause-cause : goal.returns-clause-cause
returns-clause-cause g c = λ three steady.
    let host = g.H.Host in
    let old = c.args.host.now in
    let mid = c.open_ends.new.host in
    let new = c.host_fault.new.host in
    let e = c.open_ends.ensures in
    let k = c.host_fault.ensures in
    path_fails (host.files old) (host.files mid) (host.files new) (host.said old) (host.said mid) (host.said new) c.args.scripts.now (e.cause (search rules) steady) k.files e.said (k.sure (e.goes.same_host ∙ steady) three)

use Rattle.std.proofs.Common.{◌≡◌, ◌≤◌, IfSome, length, take, vec_capacity}
use Rattle.folder_reader.specs.Hosts.{Goes}
use Rattle.run_form.specs.Outputs.{AreFree}
use Rattle.serving.specs.Ends.{AreCreated, AreMade}
use Rattle.serving.proofs.opening.create_all.Given as goal

-- the outputs so far were made
abbrev pub invariant-loop-script : goal.invariant-loop-script
invariant-loop-script g l =
    let host = g.H.Host in
    let sink = g.H.Out.Sink in
    let files = host.files l.initial.host in
    let done = take l.script-index l.scripts in
    record {
      count : length l.made.items ≡ l.script-index;
      room : length l.scripts ≤ vec_capacity l.made;
      made : AreMade sink.written sink.label sink.steady files (host.sink_steady l.initial.host) done l.made.items;
      created : AreCreated done files (host.files l.host);
      free : IfSome files (λ m. AreFree m done);
      goes : Goes host.faults host.steady host.source_steady host.sink_steady l.initial.host l.host;
      said : host.said l.host ≡ host.said l.initial.host;
    }

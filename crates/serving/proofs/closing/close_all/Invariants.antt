use Rattle.std.proofs.Common.{◌≡◌, ℕ, true, false, IfSome, Some, slice_get}
use Rattle.edge_io.specs.Faults.{Rose}
use Rattle.edge_io.specs.Files.{IsFile}
use Rattle.folder_reader.specs.Hosts.{Goes}
use Rattle.serving.proofs.ClosedSinks.{ClosedSoFar}
use Rattle.serving.proofs.closing.close_all.Given as goal

-- the sinks so far were closed, but for those whose close failed
abbrev pub invariant-loop-sink : goal.invariant-loop-sink
invariant-loop-sink g l =
    let host = g.H.Host in
    let sink = g.H.Out.Sink in
    let files = host.files l.fn.host in
    record {
      closed : ClosedSoFar sink.written sink.label files (host.files l.host) l.yielded l.all;
      fault : l.all ≡ false → Rose (host.faults l.fn.host) (host.faults l.host);
      sure : host.steady l.fn.host ≡ true → IfSome files (λ m. ((k : ℕ) (s : _) → slice_get l.fn.sinks.items k ≡ Some s → IsFile m (sink.label s)) → l.all ≡ true);
      goes : Goes host.faults host.steady host.source_steady host.sink_steady l.fn.host l.host;
      said : host.said l.host ≡ host.said l.fn.host;
    }

use Rattle.std.proofs.Common.{◌≡◌, ◌+◌}
use Rattle.edge_io.specs.Reads.{appended}
use Rattle.folder_reader.specs.Hosts.{Goes}
use Rattle.serving.proofs.SaidLines.{lines_of}
use Rattle.serving.proofs.saying.say_all.Given as goal

-- the lines so far were said
abbrev pub invariant-loop-outcome : goal.invariant-loop-outcome
invariant-loop-outcome g l =
    let host = g.H.Host in
    record {
      number : l.number ≡ l.outcome-index + 1;
      said : host.said l.host ≡ appended (lines_of l.outcome-index l.outcomes) (host.said l.initial.host);
      files : host.files l.host ≡ host.files l.initial.host;
      goes : Goes host.faults host.steady host.source_steady host.sink_steady l.initial.host l.host;
    }

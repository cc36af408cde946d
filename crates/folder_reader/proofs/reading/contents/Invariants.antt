use Rattle.std.proofs.Common.{◌≡◌, ◌≤◌, length}
use Rattle.std.specs.List.{sum_by}
use Rattle.folder_reader.specs.Hosts.{Goes, Keeps}
use Rattle.folder_reader.proofs.Sums.{SoFar}
use Rattle.folder_reader.proofs.reading.contents.Given as goal

-- the files so far were read
abbrev pub invariant-loop-path : goal.invariant-loop-path
invariant-loop-path g l =
    let host = g.H.Host in
    record {
      so_far : SoFar (host.files l.initial.host) l.paths l.path-index l.total l.all.items;
      number : length l.all.items ≡ l.path-index;
      total : sum_by length l.all.items ≡ l.total;
      bound : l.total ≤ 67108864;
      goes : Goes host.faults host.steady host.source_steady host.sink_steady l.initial.host l.host;
      keeps : Keeps host.files host.said l.initial.host l.host;
    }

use Rattle.std.proofs.Common.{◌≤◌, ◌+◌, ◌-◌, ◌*◌, ℕ, List, All, length}
use Rattle.folder_reader.specs.Hosts.{Goes, Keeps}
use Rattle.folder_reader.specs.Below.{IsBelow, IsAtOrBelow}
use Rattle.folder_reader.proofs.Turning.{OnTheWay}
use Rattle.folder_reader.proofs.walk.+walk.Given as goal

abbrev pub decreases-walk : goal.decreases-walk
decreases-walk g l = 2 * (64 - l.depth) + 1

abbrev pub decreases-visit : goal.decreases-visit
decreases-visit g l = 2 * (64 - l.depth)

-- the entries so far were taken
abbrev pub invariant-walk-loop-item : goal.invariant-walk-loop-item
invariant-walk-loop-item g l =
    let host = g.H.Host in
    record {
      on : OnTheWay (host.files l.fn.host) l.depth l.folder l.item-items l.item-index l.fn.found.items l.found.items;
      few : length l.fn.found.items ≤ 16384 → length l.found.items ≤ 16384;
      below : (root : List ℕ) → IsAtOrBelow root l.folder → All (IsBelow root) l.fn.found.items → All (IsBelow root) l.found.items;
      goes : Goes host.faults host.steady host.source_steady host.sink_steady l.fn.host l.host;
      keeps : Keeps host.files host.said l.fn.host l.host;
    }

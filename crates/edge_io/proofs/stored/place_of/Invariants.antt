use Rattle.std.proofs.Common.{ℕ, ◌<◌, ◌≢◌, List, get_or}
use Rattle.edge_io.specs.declared.host.Entry.{Entry}
use Rattle.edge_io.proofs.stored.place_of.Given as goal

abbrev pub invariant-loop-place : goal.invariant-loop-place
invariant-loop-place l = (k : ℕ) (d : List ℕ × Entry) → k < l.place → (get_or l.files k d).0 ≢ l.path

use Rattle.std.proofs.Common.{◌≢◌, ℕ, ◌<◌, List, get_or}
use Rattle.edge_io.specs.declared.host.Entry.{Entry}
use Rattle.edge_io.proofs.stored.lacks.Given as goal

abbrev pub invariant-loop-stored : goal.invariant-loop-stored
invariant-loop-stored l = (k : ℕ) (d : List ℕ × Entry) → k < l.stored-index → (get_or l.files k d).0 ≢ l.path

use Rattle.std.proofs.Common.{◌≡◌, ◌++◌}
use Rattle.site_tables.specs.Tables.{arrays_at}
use Rattle.site_tables.proofs.table.push_arrays.Given as goal

abbrev pub invariant-loop-k : goal.invariant-loop-k
invariant-loop-k l = l.infos.items ≡ l.initial.infos.items ++ arrays_at l.place l.k

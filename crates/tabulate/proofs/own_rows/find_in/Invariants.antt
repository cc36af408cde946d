use Rattle.std.proofs.Common.{ℕ, List, take, Contains}
use Rattle.tabulate.proofs.own_rows.find_in.Given as goal

abbrev pub invariant-loop-row : goal.invariant-loop-row
invariant-loop-row l = (row : List ℕ) → Contains (take l.row-index l.rows) (l.e, row) → ⊥

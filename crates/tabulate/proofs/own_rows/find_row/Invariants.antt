use Rattle.std.proofs.Common.{ℕ, List, take, Contains}
use Rattle.tabulate.specs.OwnRows.{HasRow}
use Rattle.tabulate.proofs.own_rows.find_row.Given as goal

abbrev pub invariant-loop-table : goal.invariant-loop-table
invariant-loop-table l = (row : List ℕ) → HasRow (take l.table-index l.tables.items) l.e l.mode row → ⊥

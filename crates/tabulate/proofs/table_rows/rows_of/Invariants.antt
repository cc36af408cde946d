use Rattle.std.proofs.Common.{◌≡◌, ℕ, List, take, Contains}
use Rattle.std.specs.Prelude.{map}
use Rattle.slicer_ids.specs.declared.ids.ExitId.{ExitId}
use Rattle.tabulate.specs.States.{IsRowFound}
use Rattle.tabulate.proofs.table_rows.rows_of.Given as goal

abbrev pub invariant-loop-exit : goal.invariant-loop-exit
invariant-loop-exit l = record {
  exits : map (λ (y : ExitId × List ℕ). y.0) l.rows.items ≡ take l.exit-index l.asked;
  rows : (d : ExitId) (row : List ℕ) → Contains l.rows.items (d, row) → IsRowFound l.f l.found.items d row;
}

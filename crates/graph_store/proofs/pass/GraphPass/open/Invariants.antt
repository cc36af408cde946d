use Rattle.std.proofs.Common.{◌≡◌, ℕ, Some, length}
use Rattle.std.specs.Prelude.{slice_get}
use Rattle.std.specs.declared.alloc.Global.{Global}
use Rattle.once_cell.specs.Once.{cell_name}
use Rattle.graph_store.specs.declared.pass.Slot.{Slot}
use Rattle.graph_store.specs.declared.pass.Seen.TheVariants.{No}
use Rattle.graph_store.proofs.pass.GraphPass.open.Given as goal

abbrev pub invariant-loop-cell : goal.invariant-loop-cell
invariant-loop-cell l =
    (length l.slots.items ≡ l.cell-index)
    × ((m : ℕ) (c : Global × ℕ) (t : Slot) → slice_get l.cells.items m ≡ Some c → slice_get l.slots.items m ≡ Some t → t.note.cell ≡ cell_name c)
    × ((m : ℕ) (t : Slot) → slice_get l.slots.items m ≡ Some t → t.seen ≡ No)

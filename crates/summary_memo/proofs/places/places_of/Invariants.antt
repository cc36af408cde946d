use Rattle.std.proofs.Common.{◌≡◌, ℕ, ◌<◌, ◌≤◌, ◌-◌, length}
use Rattle.std.specs.Prelude.{slice_index}
use Rattle.slicer_ids.specs.declared.ids.ExitId.{ExitId}
use Rattle.summary_memo.specs.Places.{widths, width, before}
use Rattle.summary_memo.proofs.places.places_of.Given as goal

abbrev pub invariant-loop-exit : goal.invariant-loop-exit
invariant-loop-exit l =
    (l.exit ≤ length l.f.exits)
    × (length l.starts.items ≡ l.exit)
    × (l.next ≡ before (widths l.f) l.exit)
    × ((k : ℕ) → k < l.exit → slice_index l.starts.items k ≡ before (widths l.f) k)
    × ((e : ExitId) → e.0 < l.exit → width l.f e ≤ l.longest)

abbrev pub decreases-loop-exit : goal.decreases-loop-exit
decreases-loop-exit l = length l.f.exits - l.exit

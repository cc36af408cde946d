use Rattle.std.proofs.Common.{◌≡◌, ℕ, [], length}
use Rattle.mod_ref.specs.Rows.{list_of}
use Rattle.mod_ref.proofs.sets.no_lists.Given as goal

abbrev pub invariant-loop-made : goal.invariant-loop-made
invariant-loop-made l = record {
  len : length l.lists.items ≡ l._made;
  none : (k : ℕ) → list_of l.lists.items k ≡ [];
}

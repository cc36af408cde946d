use Rattle.std.proofs.Common.{◌≡◌, ℕ, true, length, take, Contains}
use Rattle.worklist.specs.Worklists.{is_marked}
use Rattle.worklist.proofs.unmark.Given as goal

abbrev pub invariant-loop-number : goal.invariant-loop-number
invariant-loop-number l = record {
  size : length l.marks.items ≡ length l.initial.marks.items;
  left : (n : ℕ) → is_marked l.marks.items n ≡ true → (is_marked l.initial.marks.items n ≡ true) × (Contains (take l.number-index l.items) n → ⊥);
}

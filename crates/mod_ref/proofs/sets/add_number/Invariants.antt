use Rattle.std.proofs.Common.{◌≡◌, ℕ, take, length}
use Rattle.worklists.specs.Growth.{FromOne}
use Rattle.mod_ref.specs.Rows.{ListsGain, Rises, list_of}
use Rattle.mod_ref.proofs.SetLists.{AtMethod}
use Rattle.mod_ref.proofs.sets.add_number.Given as goal

abbrev pub invariant-loop-m : goal.invariant-loop-m
invariant-loop-m l = record {
  len : length l.lists.items ≡ length l.initial.lists.items;
  rises : (k : ℕ) → Rises (list_of l.lists.items k);
  gain : ListsGain l.initial.lists.items l.lists.items (λ k. FromOne (λ m. AtMethod l.number m k) (take l.m-index l.methods));
}

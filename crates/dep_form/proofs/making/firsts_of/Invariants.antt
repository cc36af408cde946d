use Rattle.std.proofs.Common.{◌≡◌, ℕ, length, take, Some}
use Rattle.std.specs.Prelude.{slice_get}
use Rattle.dep_form.specs.Firsts.{node_count}
use Rattle.dep_form.proofs.making.firsts_of.Given as goal

abbrev pub invariant-loop-input : goal.invariant-loop-input
invariant-loop-input l = record {
  each : length l.firsts.items ≡ l.input-index;
  are : (m n : ℕ) → slice_get l.firsts.items m ≡ Some n → n ≡ node_count (take m l.inputs);
  next : l.next ≡ node_count (take l.input-index l.inputs);
}

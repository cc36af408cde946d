use Rattle.std.proofs.Common.{◌≡◌, ◌<◌, ℕ, Some, take}
use Rattle.std.specs.Prelude.{slice_get}
use Rattle.dep_form.specs.Firsts.{node_count}
use Rattle.dep_form.specs.declared.input.MethodInput.{MethodInput}
use Rattle.checked_facts.proofs.facts.count_in_order.Given as goal

abbrev pub invariant-loop-m : goal.invariant-loop-m
invariant-loop-m l = record {
  next : l.next ≡ node_count (take l.m l.inputs);
  follow : (m : ℕ) (i : MethodInput) → m < l.m → slice_get l.inputs m ≡ Some (Some i) → (i.method.0 ≡ m) × (i.first.0 ≡ node_count (take m l.inputs));
}

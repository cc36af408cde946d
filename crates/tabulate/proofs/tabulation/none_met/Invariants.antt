use Rattle.std.proofs.Common.{◌≡◌, length, All, Option, None}
use Rattle.tabulate.specs.declared.method.Method.{Method}
use Rattle.tabulate.proofs.tabulation.none_met.Given as goal

abbrev pub invariant-loop-method : goal.invariant-loop-method
invariant-loop-method l = record {
  len : length l.met.items ≡ l._method;
  none : All (λ (o : Option Method). o ≡ None) l.met.items;
}

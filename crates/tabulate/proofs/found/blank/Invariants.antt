use Rattle.std.proofs.Common.{◌≡◌, length, All}
use Rattle.tabulate.specs.Found.{IsBlank}
use Rattle.tabulate.proofs.found.blank.Given as goal

abbrev pub invariant-loop-method : goal.invariant-loop-method
invariant-loop-method l = record {
  len : length l.found.items ≡ l._method;
  blank : All IsBlank l.found.items;
}

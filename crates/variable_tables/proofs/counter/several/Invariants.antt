use Rattle.std.proofs.Common.{◌≡◌, length}
use Rattle.variable_tables.specs.Numbers.{IsCounted}
use Rattle.variable_tables.proofs.counter.several.Given as goal

abbrev pub invariant-loop : goal.invariant-loop
invariant-loop l = record {
  size : length l.vars.items ≡ l.counter;
  numbers : IsCounted l.initial.fresh.next l.vars.items l.fresh.next;
}

use Rattle.std.proofs.Common.{◌≡◌, take}
use Rattle.variable_tables.specs.Numbers.{IsCounted, keys_of, numbers_of}
use Rattle.variable_tables.proofs.counter.numbered.Given as goal

abbrev pub invariant-loop-key : goal.invariant-loop-key
invariant-loop-key g l = record {
  keyed : keys_of l.table.items ≡ take l.key-index l.keys;
  numbers : IsCounted l.initial.fresh.next (numbers_of l.table.items) l.fresh.next;
}

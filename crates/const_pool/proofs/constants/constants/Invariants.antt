use Rattle.std.proofs.Common.{◌≡◌, ◌-◌, length, []}
use Rattle.byte_form.specs.States.{state}
use Rattle.byte_form.specs.Reading.{list_at}
use Rattle.class_form.specs.PoolReading.{read_index}
use Rattle.const_pool.proofs.constants.constants.Given as goal

abbrev pub invariant-loop : goal.invariant-loop
invariant-loop l = record {
  len : length l.constants.items ≡ l.counter;
  same : list_at (read_index l.major l.count) (l.count - l.counter) l.constants.items (state l.cursor) ≡ list_at (read_index l.major l.count) l.count [] (state l.fn.cursor);
}

use Rattle.std.proofs.Common.{◌≡◌, ◌-◌, []}
use Rattle.byte_form.specs.States.{state}
use Rattle.byte_form.specs.Reading.{list_at}
use Rattle.class_form.specs.ClassReading.{read_method}
use Rattle.class_reader.specs.Numbers.{IsSeen, AreTexts, names_of}
use Rattle.class_reader.proofs.methods.method_list.Given as goal

abbrev pub invariant-loop : goal.invariant-loop
invariant-loop l = record {
  same : list_at (read_method l.pool l.class_flags) (l.count - l.counter) l.items.items (state l.cursor) ≡ list_at (read_method l.pool l.class_flags) l.count [] (state l.fn.cursor);
  seen : IsSeen l.numbers l.seen (names_of l.items.items);
  texts : AreTexts l.pool (names_of l.items.items);
}

use Rattle.std.proofs.Common.{◌≡◌, ◌-◌, []}
use Rattle.byte_form.specs.States.{state}
use Rattle.byte_form.specs.Reading.{list_at}
use Rattle.class_form.specs.ClassReading.{read_line}
use Rattle.class_reader.proofs.lines.line_list.Given as goal

abbrev pub invariant-loop : goal.invariant-loop
invariant-loop l = list_at (λ _. read_line l.len) (l.count - l.counter) l.items.items (state l.cursor) ≡ list_at (λ _. read_line l.len) l.count [] (state l.fn.cursor)

use Rattle.std.proofs.Common.{◌≡◌, ◌++◌, ℕ, List, take}
use Rattle.line_numbers.specs.LineTables.{AreLasts}
use Rattle.line_numbers.proofs.filling.put_lines.Given as goal

abbrev pub invariant-loop-start : goal.invariant-loop-start
invariant-loop-start l = (before : List (ℕ × ℕ)) → AreLasts before l.initial.by_pc.items → AreLasts (before ++ take l.start-index l.lines) l.by_pc.items

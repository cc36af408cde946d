use Rattle.std.proofs.Common.{◌≡◌, map, take}
use Rattle.line_numbers.specs.LineTables.{line_in}
use Rattle.text_tables.specs.MethodLines.{entry_of}
use Rattle.text_tables.proofs.methods.point_lines.Given as goal

abbrev pub invariant-loop-point : goal.invariant-loop-point
invariant-loop-point l = l.lines.items ≡ map (entry_of (line_in l.numbers)) (take l.point-index l.points)

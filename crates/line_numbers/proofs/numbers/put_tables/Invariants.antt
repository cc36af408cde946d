use Rattle.std.proofs.Common.{◌≡◌, ◌++◌, ℕ, List, take}
use Rattle.std.specs.List.{flat_map}
use Rattle.line_numbers.specs.LineTables.{AreLasts, lines_of_one}
use Rattle.line_numbers.proofs.numbers.put_tables.Given as goal

abbrev pub invariant-loop-attribute : goal.invariant-loop-attribute
invariant-loop-attribute l = (before : List (ℕ × ℕ)) → AreLasts before l.initial.by_pc.items → AreLasts (before ++ flat_map lines_of_one (take l.attribute-index l.attributes)) l.by_pc.items

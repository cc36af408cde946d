use Rattle.std.proofs.Common.{◌≡◌, map, take}
use Rattle.text_tables.specs.LineGroups.{statement_of}
use Rattle.text_tables.proofs.lines.statements_of.Given as goal

abbrev pub invariant-loop-place : goal.invariant-loop-place
invariant-loop-place l = l.statements.items ≡ map statement_of (take l.place-index l.places)

use Rattle.std.proofs.Common.{◌≡◌, map, take}
use Rattle.input_tables.specs.Uses.{triple_of}
use Rattle.input_tables.proofs.uses.triples.Given as goal

abbrev pub invariant-loop-x : goal.invariant-loop-x
invariant-loop-x l = l.all.items ≡ map triple_of (take l.x-index l.uses)

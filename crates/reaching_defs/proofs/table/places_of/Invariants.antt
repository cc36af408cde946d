use Rattle.std.proofs.Common.{◌≡◌, take, map}
use Rattle.reaching_defs.specs.Facts.{pair_of}
use Rattle.reaching_defs.proofs.table.places_of.Given as goal

abbrev pub invariant-loop-fact : goal.invariant-loop-fact
invariant-loop-fact l = l.places.items ≡ map pair_of (take l.fact-index l.facts)

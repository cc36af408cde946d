use Rattle.std.proofs.Common.{◌≡◌, take, map}
use Rattle.reaching_defs.specs.Facts.{def_of}
use Rattle.reaching_defs.proofs.table.defs_of.Given as goal

abbrev pub invariant-loop-fact : goal.invariant-loop-fact
invariant-loop-fact l = l.defs.items ≡ map def_of (take l.fact-index l.facts)

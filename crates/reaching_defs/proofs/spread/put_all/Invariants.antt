use Rattle.std.proofs.Common.{take}
use Rattle.worklists.specs.Growth.{Grows, FromOne}
use Rattle.reaching_defs.specs.Facts.{IsFactAt}
use Rattle.reaching_defs.proofs.spread.put_all.Given as goal

abbrev pub invariant-loop-number : goal.invariant-loop-number
invariant-loop-number l = Grows l.initial.facts.items l.facts.items (FromOne (IsFactAt l.frame l.def) (take l.number-index l.numbers))

use Rattle.std.proofs.Common.{take}
use Rattle.worklists.specs.Growth.{Grows, FromOne}
use Rattle.widening.specs.Marks.{PassesTo}
use Rattle.widening.proofs.passing.pass_each.Given as goal

abbrev pub invariant-loop-argument : goal.invariant-loop-argument
invariant-loop-argument l = Grows l.initial.into.items l.into.items (FromOne (PassesTo l.f l.found.items l.number) (take l.argument-index l.arguments))

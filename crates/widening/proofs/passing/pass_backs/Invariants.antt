use Rattle.std.proofs.Common.{take}
use Rattle.worklists.specs.Growth.{Grows, FromOne}
use Rattle.widening.specs.Marks.{OverBack}
use Rattle.thin_slice.specs.Marks.{found}
use Rattle.widening.proofs.passing.pass_backs.Given as goal

abbrev pub invariant-loop-back : goal.invariant-loop-back
invariant-loop-back l = Grows l.initial.into.items l.into.items (FromOne (OverBack l.f l.found.items (found l.marks)) (take l.back-index l.backs))

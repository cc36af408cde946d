use Rattle.worklists.specs.Growth.{Grows}
use Rattle.worklists.proofs.Growing.{FromBelow}
use Rattle.thin_slice.specs.Marks.{found}
use Rattle.widening.specs.Marks.{OverMethod}
use Rattle.widening.proofs.passing.pass_again.Given as goal

abbrev pub invariant-loop-m : goal.invariant-loop-m
invariant-loop-m l = Grows l.initial.into.items l.into.items (FromBelow (OverMethod l.f l.methods.items l.found.items (found l.marks)) l.m)

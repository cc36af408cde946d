use Rattle.worklists.specs.Growth.{Grows}
use Rattle.worklists.proofs.Growing.{FromBelow}
use Rattle.constraint_rules.proofs.OfNumbers.{IsHold}
use Rattle.constraint_rules.proofs.fresh.push_holds.Given as goal

abbrev pub invariant-loop-k : goal.invariant-loop-k
invariant-loop-k l = Grows l.initial.rules.items l.rules.items (FromBelow (IsHold l.numbers.first) l.k)

use Rattle.std.proofs.Common.{ℕ}
use Rattle.checked_facts.proofs.Ranges.{Holds}
use Rattle.checked_facts.proofs.rising.is_before_from.Given as goal

abbrev pub invariant-loop-l : goal.invariant-loop-l
invariant-loop-l g l = Holds (λ (i : ℕ) y. g.T.Ranked.comes_before l.x y) l.xs l.start l.l

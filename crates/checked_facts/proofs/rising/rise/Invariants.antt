use Rattle.std.proofs.Common.{◌<◌, ℕ}
use Rattle.checked_facts.specs.Rising.{IsInOrderAt}
use Rattle.checked_facts.proofs.rising.rise.Given as goal

abbrev pub invariant-loop-k : goal.invariant-loop-k
invariant-loop-k g l = (i : ℕ) → i < l.k → IsInOrderAt g.T.Ranked.comes_before l.xs i

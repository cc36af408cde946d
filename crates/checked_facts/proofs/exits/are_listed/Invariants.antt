use Rattle.std.proofs.Common.{◌<◌, ℕ}
use Rattle.checked_facts.specs.Checks.{IsListedAt}
use Rattle.checked_facts.proofs.exits.are_listed.Given as goal

abbrev pub invariant-loop-k : goal.invariant-loop-k
invariant-loop-k l = (i : ℕ) → i < l.k → IsListedAt l.nodes l.input.first.0 l.exits i

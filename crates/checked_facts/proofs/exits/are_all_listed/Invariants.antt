use Rattle.std.proofs.Common.{◌<◌, ℕ}
use Rattle.checked_facts.specs.Checks.{AreListedAt}
use Rattle.checked_facts.proofs.exits.are_all_listed.Given as goal

abbrev pub invariant-loop-m : goal.invariant-loop-m
invariant-loop-m l = (i : ℕ) → i < l.m → AreListedAt l.inputs l.exits i

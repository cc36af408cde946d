use Rattle.std.proofs.Common.{◌≡◌, ◌≤◌, Some, length, map, take, vec_capacity}
use Rattle.sessions.specs.declared.desk.Outcome.{Outcome}
use Rattle.serving.specs.Seated.{outcome_at}
use Rattle.serving.proofs.taking.outcomes_of.Given as goal

-- the outcomes of the desks so far
abbrev pub invariant-loop-desk : goal.invariant-loop-desk
invariant-loop-desk g l = record {
  so : map (λ (o : Outcome). Some o) l.outcomes.items ≡ map outcome_at (take l.desk-index l.desks);
  room : length l.desks ≤ vec_capacity l.outcomes;
}

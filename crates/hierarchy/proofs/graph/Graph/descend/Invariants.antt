use Rattle.std.proofs.Common.{◌≡◌, ℕ, ◌+◌, ◌≤◌, ◌<◌, length, Some}
use Rattle.hierarchy.specs.Visits.{FirstFrom, IsOneOf, LeadsToOneOf}
use Rattle.hierarchy.proofs.Descents.{place_in}
use Rattle.hierarchy.proofs.graph.Graph.descend.Given as goal

abbrev pub invariant-loop : goal.invariant-loop
invariant-loop l = record {
  within : l.at < length l.self.edges.items;
  leads : LeadsToOneOf l.self.edges.items l.places l.at;
  places : place_in l.at l.order + l.index ≤ place_in l.class l.order;
  back : (c : ℕ) → FirstFrom l.self.edges.items (IsOneOf l.places) l.at (Some c) → FirstFrom l.self.edges.items (IsOneOf l.places) l.class (Some c);
}

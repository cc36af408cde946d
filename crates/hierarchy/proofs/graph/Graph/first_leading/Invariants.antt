use Rattle.std.proofs.Common.{ℕ, Option, drop}
use Rattle.hierarchy.specs.Visits.{IsFirst, LeadsToOneOf}
use Rattle.hierarchy.proofs.graph.Graph.first_leading.Given as goal

abbrev pub invariant-loop-class : goal.invariant-loop-class
invariant-loop-class l = (found : Option ℕ) → IsFirst (LeadsToOneOf l.self.edges.items l.places) (drop l.class-index l.classes) found
    → IsFirst (LeadsToOneOf l.self.edges.items l.places) l.classes found

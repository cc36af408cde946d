use Rattle.variable_tables.specs.Growth.{GrowsInOrder}
use Rattle.worklists.proofs.Growing.{FromBelow}
use Rattle.constraints.specs.Touches.{TouchRises}
use Rattle.constraints.proofs.OfTouches.{OfSite}
use Rattle.constraints.proofs.touches.push_sites.Given as goal

abbrev pub invariant-loop-k : goal.invariant-loop-k
invariant-loop-k l = GrowsInOrder TouchRises l.initial.touches.items l.touches.items (FromBelow (OfSite l.place l.first l.field) l.k)

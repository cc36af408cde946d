use Rattle.points_to.specs.Indexes.{AreMasks}
use Rattle.points_to.proofs.filters.masks.Given as goal

abbrev pub invariant-loop-constraint : goal.invariant-loop-constraint
invariant-loop-constraint l = AreMasks l.system l.masks.items

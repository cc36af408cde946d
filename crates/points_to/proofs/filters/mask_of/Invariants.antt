use Rattle.points_to.specs.Indexes.{IsMaskBelow}
use Rattle.points_to.proofs.filters.mask_of.Given as goal

abbrev pub invariant-loop-number : goal.invariant-loop-number
invariant-loop-number l = IsMaskBelow l.system l.keep l.number l.row.items

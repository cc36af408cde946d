use Rattle.std.proofs.Common.{◌<◌}
use Rattle.slicer_ids.specs.Sets.{IsOrderedListOf}
use Rattle.outside_model.specs.Arguments.{IsFrom}
use Rattle.outside_model.proofs.outside_rule.numbers.Given as goal

-- the arguments before the next one
abbrev pub invariant-loop-i : goal.invariant-loop-i
invariant-loop-i l = IsOrderedListOf (λ i j. i < j) l.numbers.items (λ k. IsFrom l.references l.first l.all k × (k < l.i))

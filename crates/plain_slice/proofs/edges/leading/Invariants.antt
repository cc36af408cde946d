use Rattle.std.proofs.Common.{◌<◌, ℕ}
use Rattle.worklists.specs.Growth.{Grows}
use Rattle.plain_slice.specs.Edges.{Leads}
use Rattle.plain_slice.proofs.edges.leading.Given as goal

abbrev pub invariant-loop-k : goal.invariant-loop-k
invariant-loop-k l = Grows l.initial.numbers.items l.numbers.items (λ (j : ℕ). (j < l.k) × Leads l.pairs l.formals l.exit j)

use Rattle.std.proofs.Common.{◌≡◌}
use Rattle.edge_tables.proofs.Passing.{HoldsOfNone}
use Rattle.edge_tables.proofs.outside.is_listed.Given as goal

abbrev pub invariant-loop-n : goal.invariant-loop-n
invariant-loop-n l = HoldsOfNone (λ k. k ≡ l.i) l.numbers l.n-index

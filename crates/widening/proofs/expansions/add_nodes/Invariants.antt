use Rattle.widening.specs.Edges.{Opens, IsAmongOf}
use Rattle.widening.proofs.expansions.add_nodes.Given as goal

abbrev pub invariant-loop-k : goal.invariant-loop-k
invariant-loop-k l = Opens (IsAmongOf l.f l.s l.input.first.0 l.k) l.initial.marks.items l.marks.items l.initial.into.items l.into.items

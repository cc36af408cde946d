use Rattle.digraph.proofs.Bits.{AreJoined}
use Rattle.digraph.proofs.rows.add_row.Given as goal

abbrev pub invariant-loop-i : goal.invariant-loop-i
invariant-loop-i l = AreJoined l.initial.row.items l.other l.row.items l.i

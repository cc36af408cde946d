use Rattle.signature_tables.specs.Pairs.{ClassesBefore}
use Rattle.constraints.proofs.Rising.{AreRising}
use Rattle.constraints.proofs.type_order.pairs_rise.Given as goal

abbrev pub invariant-loop-i : goal.invariant-loop-i
invariant-loop-i l = AreRising ClassesBefore l.pairs l.i

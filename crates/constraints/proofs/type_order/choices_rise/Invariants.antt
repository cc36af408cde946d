use Rattle.signature_tables.specs.Selections.{ChoiceBefore}
use Rattle.constraints.proofs.Rising.{AreRising}
use Rattle.constraints.proofs.type_order.choices_rise.Given as goal

abbrev pub invariant-loop-i : goal.invariant-loop-i
invariant-loop-i l = AreRising ChoiceBefore l.choices l.i

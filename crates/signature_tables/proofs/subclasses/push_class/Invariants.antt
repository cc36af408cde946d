use Rattle.slicer_ids.specs.Sets.{IsOrderedListOf}
use Rattle.signature_tables.specs.Pairs.{ClassesBefore, IsSubPairUpTo}
use Rattle.signature_tables.proofs.subclasses.push_class.Given as goal

abbrev pub invariant-loop-b : goal.invariant-loop-b
invariant-loop-b l = IsOrderedListOf ClassesBefore l.pairs.items (IsSubPairUpTo l.h l.a l.b)

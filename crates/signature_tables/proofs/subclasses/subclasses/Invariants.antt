use Rattle.slicer_ids.specs.Sets.{IsOrderedListOf}
use Rattle.signature_tables.specs.Pairs.{ClassesBefore, IsSubPairUpTo}
use Rattle.signature_tables.proofs.subclasses.subclasses.Given as goal

abbrev pub invariant-loop-a : goal.invariant-loop-a
invariant-loop-a l = IsOrderedListOf ClassesBefore l.pairs.items (IsSubPairUpTo l.h l.a 0)

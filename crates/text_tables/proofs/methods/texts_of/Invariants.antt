use Rattle.text_tables.specs.MethodLines.{AreTextsBelow}
use Rattle.text_tables.proofs.methods.texts_of.Given as goal

abbrev pub invariant-loop-m : goal.invariant-loop-m
invariant-loop-m l = AreTextsBelow l.h l.bodies l.sol l.places l.m l.texts.items

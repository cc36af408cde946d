use Rattle.std.specs.Prelude.{map}
use Rattle.signature_tables.specs.TextPairs.{pair_of}
use Rattle.signature_tables.specs.Selections.{AreChoicesUpTo}
use Rattle.signature_tables.proofs.selects.selects.Given as goal

abbrev pub invariant-loop-signature : goal.invariant-loop-signature
invariant-loop-signature l = AreChoicesUpTo l.h (map pair_of l.signatures) l.signature 0 l.choices.items

use Rattle.std.specs.Prelude.{map}
use Rattle.signature_tables.specs.TextPairs.{pair_of}
use Rattle.signature_tables.specs.Selections.{AreChoicesUpTo}
use Rattle.signature_tables.proofs.selects.push_signature.Given as goal

abbrev pub invariant-loop-class : goal.invariant-loop-class
invariant-loop-class l = AreChoicesUpTo l.h (map pair_of l.signatures) l.signature l.class l.choices.items

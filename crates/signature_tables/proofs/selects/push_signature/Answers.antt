use Rattle.std.proofs.Common.{map, arith}
use Rattle.signature_tables.specs.TextPairs.{pair_of}
use Rattle.signature_tables.proofs.Choosing.{signature_done}
use Rattle.signature_tables.proofs.selects.push_signature.Goals as goal

pub returns : goal.returns
returns c = signature_done c.args.h.now (map pair_of c.args.signatures.now) c.args.signature c.loop-class.class c.loop-class.choices.items (omega arith) c.loop-class.invariant

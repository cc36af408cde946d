use Rattle.std.proofs.Common.{map, sym, subst, arith}
use Rattle.std.proofs.lemmas.List.{length-map}
use Rattle.signature_tables.specs.TextPairs.{pair_of}
use Rattle.signature_tables.specs.Selections.{AreChoices}
use Rattle.signature_tables.proofs.Choosing.{all_chosen}
use Rattle.signature_tables.proofs.selects.selects.Goals as goal

pub returns : goal.returns
returns c =
    let len = length-map c.args.signatures.now pair_of in
    subst (AreChoices c.args.h.now (map pair_of c.args.signatures.now)) (sym c.from_vec.ensures)
    (all_chosen c.args.h.now (map pair_of c.args.signatures.now) c.loop-signature.signature c.loop-signature.choices.items (omega arith) c.loop-signature.invariant)

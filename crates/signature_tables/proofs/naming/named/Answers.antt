use Rattle.std.specs.Prelude.{map, Contains}
use Rattle.slicer_ids.proofs.GrowingOrder.{reworded}
use Rattle.program_form.specs.Systems.{ForeignBefore}
use Rattle.signature_tables.specs.TextPairs.{pair_of}
use Rattle.signature_tables.specs.Statements.{ProgramNames}
use Rattle.signature_tables.proofs.naming.named.Goals as goal

pub returns : goal.returns
returns c = λ p of e.
    let known = c.in_ok-texts.ensures p of e in
    reworded ForeignBefore (map pair_of c.in_order.result.items) (Contains (map pair_of c.in_ok-texts.texts.items)) (ProgramNames c.args.wanted p)
    (λ nd has. (known nd).0 has) (λ nd names. (known nd).1 names) c.in_order.ensures

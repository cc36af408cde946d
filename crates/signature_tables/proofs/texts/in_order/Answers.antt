use Rattle.std.proofs.Common.{List, Contains, sym, subst}
use Rattle.std.specs.Prelude.{map}
use Rattle.slicer_ids.specs.Sets.{IsOrderedListOf}
use Rattle.program_form.specs.Systems.{ForeignBefore}
use Rattle.signature_tables.specs.declared.texts.Texts.{Texts}
use Rattle.signature_tables.specs.TextPairs.{pair_of}
use Rattle.signature_tables.proofs.TextOrder.{texts_in_order}
use Rattle.signature_tables.proofs.texts.in_order.Goals as goal

pub returns : goal.returns
returns c = subst (λ (zs : List Texts). IsOrderedListOf ForeignBefore (map pair_of zs) (Contains (map pair_of c.args.texts.items))) (sym c.keep_first.ensures)
    (texts_in_order c.args.texts.items c.sorted-texts.result.items c.sorted-texts.ensures.same c.sorted-texts.ensures.sorted)

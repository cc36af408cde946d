use Rattle.std.proofs.Common.{length, ap, sym, subst, arith}
use Rattle.slicer_ids.specs.Sets.{IsOrderedListOf}
use Rattle.signature_tables.specs.Pairs.{ClassesBefore, IsSubPair}
use Rattle.signature_tables.proofs.SubPairs.{all_classes}
use Rattle.signature_tables.proofs.subclasses.subclasses.Goals as goal

pub returns : goal.returns
returns c =
    let e = ap length c.classes.ensures.classes in
    subst (λ ps. IsOrderedListOf ClassesBefore ps (IsSubPair c.args.h.now)) (sym c.from_vec.ensures) (all_classes c.args.h.now c.loop-a.a c.loop-a.pairs.items (omega arith) c.loop-a.invariant)

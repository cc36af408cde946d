use Rattle.std.proofs.Common.{◌≡◌, length, get_or, refl, subst}
use Rattle.std.specs.Prelude.{bit_or}
use Rattle.points_to.proofs.Words.{or_bits, union_adds}
use Rattle.points_to.proofs.row.union.Goals as goal

pub returns-else-adds_some-clause-adds : goal.returns-else-adds_some-clause-adds
returns-else-adds_some-clause-adds c = union_adds c.widen.new.row.items c.widen.new.row.items c.args.to.now.items c.args.from.now c.in_ok-widen.ensures.words (or_bits c.widen.new.row.items c.widen.new.row.items c.args.from.now (length c.args.from.now) refl
    (λ i lt. subst (λ xs. get_or xs i 0 ≡ bit_or (get_or xs i 0) (get_or c.args.from.now i 0)) c.as_slice.ensures.value (c.adds_some.ensures c.if-adds_some.false i lt))
    (λ i le. refl))

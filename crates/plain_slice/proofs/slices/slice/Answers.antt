use Rattle.std.proofs.Common.{List, Contains, sym, subst}
use Rattle.plain_slice.specs.declared.table.Pair.{Pair}
use Rattle.plain_slice.specs.Tables.{pair}
use Rattle.plain_slice.proofs.slices.slice.Goals as goal

pub returns : goal.returns
returns c = λ n.
    let h = c.in_ok-nodes.ensures n in
    let g = c.in_ok-found.ensures n.0 in
    let same = c.deref-2.ensures.value in (
      λ x. g.0 (subst (λ (xs : List Pair). Contains xs (pair n.0 1)) same (h.0 x)),
      λ x. h.1 (subst (λ (xs : List Pair). Contains xs (pair n.0 1)) (sym same) (g.1 x)),
    )

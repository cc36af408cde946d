use Rattle.std.proofs.Common.{List, Contains, sym, subst}
use Rattle.plain_slice.specs.declared.table.Pair.{Pair}
use Rattle.plain_slice.specs.Tables.{pair}
use Rattle.plain_slice.proofs.edges.summary.Goals as goal

pub returns : goal.returns
returns c = λ k.
    let h = c.in_ok-numbers.ensures k in
    let e = c.args.exit in
    let exact = c.in_ok-level.ensures.exact in
    let same = c.deref.ensures.value in (
      λ x. let l = h.0 x in (l.0, l.1, (exact l.0.0 e.0 c.requires.exit).0 (subst (λ (xs : List Pair). Contains xs (pair l.0.0 e.0)) same l.2)),
      λ s. h.1 (s.0, s.1, subst (λ (xs : List Pair). Contains xs (pair s.0.0 e.0)) (sym same) ((exact s.0.0 e.0 c.requires.exit).1 s.2)),
    )

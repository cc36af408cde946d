use Rattle.std.proofs.Common.{length, refl, sym, subst, ap, arith}
use Rattle.std.proofs.lemmas.Option.{slice_get_read}
use Rattle.class_form.specs.Classes.{IsSub}
use Rattle.digraph.specs.Rows.{HasBit}
use Rattle.hierarchy.proofs.tree.Hierarchy.is_sub.Goals as goal

pub returns : goal.returns
returns c =
    let a = c.args.a.0 in
    let b = c.args.b.0 in
    let rows = c.self.inside.tree.parents.rows.items in
    let same = ap length c.self.view_is in
    let is = c.self.invariant.subs.each a b c.index.result.now
    (slice_get_read rows (length rows) a c.index.result.now refl (omega (arith, same, c.requires.0, c.self.invariant.subs.len)) c.index.ensures)
    (omega (arith, same, c.requires.1)) in (
      λ t. subst (λ classes. IsSub classes a b) c.self.view_is (is.0 (subst (λ xs. HasBit xs b) c.as_slice.ensures.value (c.has_bit.ensures.0 t))),
      λ h. c.has_bit.ensures.1 (subst (λ xs. HasBit xs b) (sym c.as_slice.ensures.value) (is.1 (subst (λ classes. IsSub classes a b) (sym c.self.view_is) h))),
    )

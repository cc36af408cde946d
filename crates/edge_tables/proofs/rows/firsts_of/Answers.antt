use Rattle.std.proofs.Common.{◌≡◌, ◌+◌, [], ◌∷◌, List, ℕ, Some, take, length, length-append, sym, ap, subst, ◌∙◌, inl, inr, arith}
use Rattle.std.specs.Prelude.{slice_get, sum_by}
use Rattle.std.proofs.lemmas.List.Sums.{sum_by_more}
use Rattle.dep_form.proofs.Firsts.{pushed}
use Rattle.edge_tables.specs.Rows.{size_of}
use Rattle.edge_tables.proofs.rows.firsts_of.Goals as goal

pub loop-row-preserved : goal.loop-row-preserved
loop-row-preserved c = record {
  each = omega (arith, ap (λ (xs : List ℕ). length xs) c.in_ok-push.ensures, length-append c.loop-row.firsts.items (c.loop-row.next ∷ []), c.loop-row.invariant.each);
  are = λ m n e. elim (pushed c.loop-row.firsts.items c.loop-row.next n m (subst (λ (xs : List ℕ). slice_get xs m ≡ Some n) c.in_ok-push.ensures e)) [
    | inl h ↦ c.loop-row.invariant.are m n h
    | inr h ↦ h.1 ∙ c.loop-row.invariant.next ∙ ap (λ (i : ℕ). sum_by size_of (take i c.args.rows.now)) (sym (h.0 ∙ c.loop-row.invariant.each))
  ];
  next = omega (arith, c.loop-row.invariant.next, sum_by_more size_of c.args.rows.now c.loop-row.row-index c.row-item.result c.loop-row-test.true, ap size_of c.row-item.is, c.len.ensures, c.row-item.result.ok.0);
}

pub returns : goal.returns
returns c = record {
  size = omega (arith, c.loop-row.invariant.each, c.loop-row-test.false, c.loop-row.auto.row-index-end);
  are = c.loop-row.invariant.are;
}

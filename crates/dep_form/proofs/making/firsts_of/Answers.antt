use Rattle.std.proofs.Common.{◌≡◌, [], ◌∷◌, List, ℕ, Some, take, length, length-append, refl, sym, ap, subst, ◌∙◌, inl, inr, arith}
use Rattle.std.specs.Prelude.{slice_get}
use Rattle.std.proofs.lemmas.Option.{slice_get_read}
use Rattle.dep_form.specs.Firsts.{node_count}
use Rattle.dep_form.proofs.Firsts.{pushed, count_next}
use Rattle.dep_form.proofs.making.firsts_of.Goals as goal

pub loop-input-preserved : goal.loop-input-preserved
loop-input-preserved c =
    let e = c.in_ok-push_first.ensures in
    let before = c.loop-input.invariant in
    let i = c.loop-input.input-index in
    let at = slice_get_read c.args.inputs.now (length c.args.inputs.now) i c.input-item.result refl c.loop-input-test.true c.input-item.is in
    record {
      each = omega (arith, ap length e, length-append c.loop-input.firsts.items (c.loop-input.next ∷ []), before.each);
      are = λ m n h. elim (pushed c.loop-input.firsts.items c.loop-input.next n m (subst (λ (xs : List ℕ). slice_get xs m ≡ Some n) e h)) [
        | inl old ↦ before.are m n old
        | inr new ↦ new.1 ∙ before.next ∙ ap (λ k. node_count (take k c.args.inputs.now)) (sym (new.0 ∙ before.each))
      ];
      next = omega (arith, before.next, c.count_nodes-next.ensures, count_next c.args.inputs.now i c.input-item.result at);
    }

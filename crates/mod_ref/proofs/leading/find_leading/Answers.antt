use Rattle.std.proofs.Common.{◌≡◌, ◌<◌, ℕ, List, [], All, Contains, length, refl, sym, ap, subst, inl, inr, ◌∙◌, arith}
use Rattle.worklists.specs.Growth.{Grows}
use Rattle.worklists.proofs.ClosingOne.{begins, goes_on}
use Rattle.worklists.proofs.Growing.{Grows-kept}
use Rattle.slicer_ids.specs.declared.ids.MethodId.{MethodId}
use Rattle.mod_ref.specs.Rows.{method, row_of}
use Rattle.mod_ref.proofs.Backwards.{Good, ToCaller, by_one, all_found, listed_below}
use Rattle.mod_ref.proofs.TableRows.{row_read}
use Rattle.mod_ref.proofs.leading.find_leading.Goals as goal

pub loop-next-init : goal.loop-next-init
loop-next-init c = record {
  size = refl;
  set = c.in_ok-add_all.ensures.set;
  start = λ t there. c.in_ok-add_all.ensures.grown.all t.0 there;
  closing = begins (Good c.args.callers.now c.args.targets.now) (ToCaller c.args.callers.now) c.add_all.new.found.items.items (λ n h. elim (c.in_ok-add_all.ensures.grown.only n h) [
    | inl o ↦ absurd (omega (arith, o.1, ap length c.requires.none))
    | inr there ↦ (method n, there, ([], refl))
  ]);
}

pub add_all-requires-in-loop-next-clause-within : goal.add_all-requires-in-loop-next-clause-within
add_all-requires-in-loop-next-clause-within c =
    let callers = c.args.callers.now in
    let x = c.index-number.result.now in
    let size = c.loop-next.invariant.size ∙ c.add_all.ensures.size ∙ c.requires.size in
    let lt : x < length callers = listed_below c.loop-next.found.marks.items c.loop-next.found.items.items callers c.loop-next.next x c.loop-next.invariant.set size (omega (arith, c.loop-next-test.true, c.len.ensures)) c.index-number.ensures in
    let row : c.as_slice.result.now ≡ row_of callers x = c.as_slice.ensures.value ∙ row_read callers x c.index-callers-number.result lt c.index-callers-number.is in
    subst (λ n. All (λ (m : MethodId). m.0 < n) c.as_slice.result.now) (sym size) (subst (All (λ (m : MethodId). m.0 < length callers)) (sym row) (c.requires.callers x))

pub loop-next-preserved : goal.loop-next-preserved
loop-next-preserved c =
    let callers = c.args.callers.now in
    let targets = c.args.targets.now in
    let old = c.loop-next.found.items.items in
    let new = c.add_all-in-loop-next.new.found.items.items in
    let x = c.index-number.result.now in
    let lt : c.loop-next.next < length old = omega (arith, c.loop-next-test.true, c.len.ensures) in
    let size = c.loop-next.invariant.size ∙ c.add_all.ensures.size ∙ c.requires.size in
    let within : x < length callers = listed_below c.loop-next.found.marks.items old callers c.loop-next.next x c.loop-next.invariant.set size lt c.index-number.ensures in
    let row : c.as_slice.result.now ≡ row_of callers x = c.as_slice.ensures.value ∙ row_read callers x c.index-callers-number.result within c.index-callers-number.is in
    let grown = subst (λ (ms : List MethodId). Grows old new (λ n. Contains ms (method n))) row c.in_ok-add_all-2.ensures.grown in
    record {
      size = c.add_all-in-loop-next.ensures.size ∙ c.loop-next.invariant.size;
      set = c.in_ok-add_all-2.ensures.set;
      start = λ t there. Grows-kept old new (ToCaller callers x) grown t.0 (c.loop-next.invariant.start t there);
      closing = goes_on (Good callers targets) (ToCaller callers) (by_one callers targets) c.loop-next.next x old new lt c.index-number.ensures grown c.loop-next.invariant.closing;
    }

pub returns-clause-found : goal.returns-clause-found
returns-clause-found c = all_found c.args.callers.now c.args.targets.now c.loop-next.next c.loop-next.found.items.items (omega (arith, c.loop-next-test.false, c.len.ensures)) c.loop-next.invariant.start c.loop-next.invariant.closing

use Rattle.std.proofs.Common.{◌≡◌, ◌<◌, ◌↔◌, ℕ, List, All, Contains, length, sym, subst, ◌∙◌, arith}
use Rattle.slicer_ids.specs.declared.ids.MethodId.{MethodId}
use Rattle.mod_ref.specs.Rows.{AreSetsBelow, LeadsInto, method, row_of}
use Rattle.mod_ref.proofs.TableRows.{row_read}
use Rattle.mod_ref.proofs.SetLists.{all_below, sets_more, sets_none}
use Rattle.mod_ref.proofs.sets.sets.Goals as goal

pub loop-number-init : goal.loop-number-init
loop-number-init c = record {
  size = c.in_ok-found.ensures.size;
  set = c.in_ok-found.ensures.set;
  none = c.in_ok-found.ensures.none;
  sets = sets_none c.args.callers.now c.args.sources.now c.in_ok-lists.lists.items c.in_ok-lists.ensures.len c.in_ok-lists.ensures.none;
}

pub find_leading-requires-clause-targets : goal.find_leading-requires-clause-targets
find_leading-requires-clause-targets c =
    let row : c.as_slice.result.now ≡ row_of c.args.sources.now c.loop-number.number = c.as_slice.ensures.value ∙ row_read c.args.sources.now c.loop-number.number c.index-sources-number.result c.loop-number-test.true c.index-sources-number.is in
    subst (All (λ (m : MethodId). m.0 < length c.args.callers.now)) (sym row) (c.requires.sources c.loop-number.number)

pub add_number-requires-clause-below : goal.add_number-requires-clause-below
add_number-requires-clause-below c = all_below c.args.callers.now c.args.sources.now c.loop-number.number c.loop-number.lists.items c.loop-number.invariant.sets

pub loop-number-preserved : goal.loop-number-preserved
loop-number-preserved c =
    let callers = c.args.callers.now in
    let sources = c.args.sources.now in
    let number = c.loop-number.number in
    let row : c.as_slice.result.now ≡ row_of sources number = c.as_slice.ensures.value ∙ row_read sources number c.index-sources-number.result c.loop-number-test.true c.index-sources-number.is in
    let found = subst (λ (ms : List ℕ). (n : ℕ) → Contains ms n ↔ LeadsInto callers c.as_slice.result.now (method n)) (sym c.as_slice-in-loop-number.ensures.value) c.in_ok-find_leading.ensures.found in
    let leads = subst (λ (ts : List MethodId). (n : ℕ) → Contains c.as_slice-in-loop-number.result.now n ↔ LeadsInto callers ts (method n)) row found in
    record {
      size = c.clear.ensures.size ∙ c.find_leading.ensures.size ∙ c.loop-number.invariant.size;
      set = c.clear.ensures.set;
      none = c.clear.ensures.none;
      sets = sets_more callers sources number c.as_slice-in-loop-number.result.now c.loop-number.lists.items c.add_number.new.lists.items c.loop-number.invariant.sets leads c.in_ok-add_number.ensures.gain c.in_ok-add_number.ensures.len c.in_ok-add_number.ensures.rises;
    }

pub returns : goal.returns
returns c =
    let end : c.loop-number.number ≡ length c.args.sources.now = omega (arith, c.loop-number-test.false, c.loop-number.auto.number-end) in
    subst (AreSetsBelow c.args.callers.now c.args.sources.now c.loop-number.lists.items) end c.loop-number.invariant.sets

use Rattle.std.proofs.Common.{List, [], ◌∷◌, length, length-append, ap, ◌∙◌, arith}
use Rattle.slicer_ids.specs.declared.ids.LocId.{LocId}
use Rattle.mod_ref.specs.Rows.{list_of}
use Rattle.mod_ref.proofs.SetLists.{no_list_more}
use Rattle.mod_ref.proofs.sets.no_lists.Goals as goal

pub loop-made-init : goal.loop-made-init
loop-made-init c = record {
  len = ap (λ (lists : List (List LocId)). length lists) c.new-lists.ensures.items;
  none = λ k. ap (λ (lists : List (List LocId)). list_of lists k) c.new-lists.ensures.items;
}

pub loop-made-preserved : goal.loop-made-preserved
loop-made-preserved c = record {
  len = omega (arith, c.loop-made.invariant.len, length-append c.loop-made.lists.items (c.from_vec.result ∷ []), ap (λ (lists : List (List LocId)). length lists) c.in_ok-push.ensures.items);
  none = λ k. ap (λ (lists : List (List LocId)). list_of lists k) c.in_ok-push.ensures.items ∙ no_list_more c.loop-made.lists.items c.from_vec.result (c.from_vec.ensures ∙ c.new.ensures.items) c.loop-made.invariant.none k;
}

pub returns-clause-len : goal.returns-clause-len
returns-clause-len c = omega (arith, c.loop-made.invariant.len, c.loop-made-test.false, c.loop-made.auto._made-end)

pub returns-clause-none : goal.returns-clause-none
returns-clause-none c = c.loop-made.invariant.none

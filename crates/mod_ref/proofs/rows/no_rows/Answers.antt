use Rattle.std.proofs.Common.{List, [], ◌∷◌, length, length-append, ap, ◌∙◌, arith}
use Rattle.std.specs.Global.{Vec}
use Rattle.slicer_ids.specs.declared.ids.MethodId.{MethodId}
use Rattle.mod_ref.specs.Rows.{row_of}
use Rattle.mod_ref.proofs.TableRows.{none_more}
use Rattle.mod_ref.proofs.rows.no_rows.Goals as goal

pub loop-made-init : goal.loop-made-init
loop-made-init c = record {
  len = ap (λ (rows : List (Vec MethodId)). length rows) c.new-rows.ensures.items;
  none = λ k. ap (λ (rows : List (Vec MethodId)). row_of rows k) c.new-rows.ensures.items;
}

pub loop-made-preserved : goal.loop-made-preserved
loop-made-preserved c = record {
  len = omega (arith, c.loop-made.invariant.len, length-append c.loop-made.rows.items (c.new.result ∷ []), ap (λ (rows : List (Vec MethodId)). length rows) c.in_ok-push.ensures.items);
  none = λ k. ap (λ (rows : List (Vec MethodId)). row_of rows k) c.in_ok-push.ensures.items ∙ none_more c.loop-made.rows.items c.new.result c.new.ensures.items c.loop-made.invariant.none k;
}

pub returns-clause-len : goal.returns-clause-len
returns-clause-len c = omega (arith, c.loop-made.invariant.len, c.loop-made-test.false, c.loop-made.auto._made-end)

pub returns-clause-none : goal.returns-clause-none
returns-clause-none c = c.loop-made.invariant.none

use Rattle.std.proofs.Common.{true, inl, inr, sym, subst, ◌∙◌}
use Rattle.std.proofs.lemmas.Bool.{false≢true}
use Rattle.std.proofs.lemmas.Result.{on_ok_weaker}
use Rattle.slicer_ids.specs.declared.ids.Statement.{Statement}
use Rattle.class_form.specs.Opcodes.{IsMultiNewArray}
use Rattle.site_tables.specs.Tables.{AreNumbersOf}
use Rattle.variable_tables.specs.Growth.{GrowsInOrder}
use Rattle.variable_tables.proofs.InOrder.{grows_none}
use Rattle.constraint_rules.specs.Settings.{place_of}
use Rattle.constraints.specs.Touches.{IsTouchOf, IsOfArrays, TouchRises, OfDimensions}
use Rattle.constraints.proofs.Standing.{kind_at, kind_here}
use Rattle.constraints.proofs.OfTouches.{touch_same, arrays_to, arrays_from}
use Rattle.constraints.proofs.touches.push_dimensions.Goals as goal

pub returns-then-not-is_multi_new_array : goal.returns-then-not-is_multi_new_array
returns-then-not-is_multi_new_array c = λ p s names set placed.
    let x = c.args.x.now in
    grows_none TouchRises (λ y. ⊥) c.args.touches.now.items (IsTouchOf (place_of x) true (OfDimensions p s names (place_of x)))
    (λ y (sp, h, e). elim h [
      | inl made ↦ false≢true (sym c.if-not-is_multi_new_array.true ∙ c.is_multi_new_array.ensures.1 (kind_at p set.of.read x placed IsMultiNewArray made.0))
      | inr made ↦ false≢true (sym c.if-not-is_multi_new_array.true ∙ c.is_multi_new_array.ensures.1 (kind_at p set.of.read x placed IsMultiNewArray made.0))
    ])

pub returns : goal.returns
returns c = λ p s names set placed.
    let x = c.args.x.now in
    let first = c.numbers_of.result.first in
    let count = c.numbers_of.result.count in
    let old = c.args.touches.now.items in
    let new = c.push_arrays.new.touches.items in
    let o = kind_here p set.of.read x placed IsMultiNewArray (c.is_multi_new_array.ensures.0 c.if-not-is_multi_new_array.false) in
    let numbers = subst (λ (z : Statement). AreNumbersOf p z first count) c.statement_of-place.ensures (c.numbers_of.ensures p set.sites) in
    on_ok_weaker c.push_arrays.result
    (λ g. touch_same (place_of x) true (IsOfArrays s first count) (OfDimensions p s names (place_of x)) old new
    (arrays_to p s names (place_of x) o c.args.t.now.sites.now set.sites first count numbers) (arrays_from p s names (place_of x) o c.args.t.now.sites.now set.sites first count numbers)
    (subst (λ (z : Statement). GrowsInOrder TouchRises old new (IsTouchOf z true (IsOfArrays s first count))) c.statement_of-place.ensures g))
    (c.push_arrays.ensures p s names set)

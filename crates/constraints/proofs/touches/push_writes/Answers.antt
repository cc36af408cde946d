use Rattle.std.proofs.Common.{true, subst}
use Rattle.std.proofs.lemmas.Result.{on_ok_weaker}
use Rattle.slicer_ids.specs.declared.ids.Statement.{Statement}
use Rattle.variable_tables.specs.Growth.{GrowsInOrder}
use Rattle.constraint_rules.specs.Settings.{place_of}
use Rattle.constraints.specs.Touches.{IsTouchOf, TouchRises, WritingElement, WritingField, WritingStatic, MakingArray, OfWrites}
use Rattle.constraints.proofs.OfTouches.{touch_said, both_touched}
use Rattle.constraints.proofs.touches.push_writes.Goals as goal

pub returns : goal.returns
returns c = λ p s names set placed.
    let at = c.statement_of-place.result in
    let here = place_of c.args.x.now in
    on_ok_weaker c.push-4.result
    (λ g. subst (λ (z : Statement). GrowsInOrder TouchRises c.args.touches.now.items c.push-4.new.touches.items (IsTouchOf z true (OfWrites p s names here))) c.statement_of-place.ensures
    (both_touched at true _ _ c.args.touches.now.items c.push.new.touches.items c.push-4.new.touches.items (touch_said at true (WritingElement p s names here) c.in_ok-element.element c.args.touches.now.items c.push.new.touches.items (c.in_ok-element.ensures p s names set placed) c.in_ok-push.ensures)
    (both_touched at true _ _ c.push.new.touches.items c.push-2.new.touches.items c.push-4.new.touches.items (touch_said at true (WritingField p s names here) c.in_ok-field.field c.push.new.touches.items c.push-2.new.touches.items (c.in_ok-field.ensures p s names set placed) c.in_ok-push-2.ensures)
    (both_touched at true _ _ c.push-2.new.touches.items c.push-3.new.touches.items c.push-4.new.touches.items (touch_said at true (WritingStatic p s names here) c.writing_static.result c.push-2.new.touches.items c.push-3.new.touches.items (c.writing_static.ensures p s names set placed) c.in_ok-push-3.ensures)
    (touch_said at true (MakingArray p s names here) c.making_array.result c.push-3.new.touches.items c.push-4.new.touches.items (c.making_array.ensures p s names set placed) g)))))
    c.push-4.ensures

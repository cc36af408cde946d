use Rattle.std.proofs.Common.{false, subst}
use Rattle.std.proofs.lemmas.Result.{on_ok_weaker}
use Rattle.slicer_ids.specs.declared.ids.Statement.{Statement}
use Rattle.variable_tables.specs.Growth.{GrowsInOrder}
use Rattle.constraint_rules.specs.Settings.{place_of}
use Rattle.constraints.specs.Touches.{IsTouchOf, TouchRises, ReadingElement, ReadingLength, ReadingField, ReadingStatic, OfReads}
use Rattle.constraints.proofs.OfTouches.{touch_said, both_touched}
use Rattle.constraints.proofs.touches.push_reads.Goals as goal

pub returns : goal.returns
returns c = λ p s names set placed.
    let at = c.statement_of-place.result in
    let here = place_of c.args.x.now in
    on_ok_weaker c.push-4.result
    (λ g. subst (λ (z : Statement). GrowsInOrder TouchRises c.args.touches.now.items c.push-4.new.touches.items (IsTouchOf z false (OfReads p s names here))) c.statement_of-place.ensures
    (both_touched at false _ _ c.args.touches.now.items c.push.new.touches.items c.push-4.new.touches.items (touch_said at false (ReadingElement p s names here) c.in_ok-element.element c.args.touches.now.items c.push.new.touches.items (c.in_ok-element.ensures p s names set placed) c.in_ok-push.ensures)
    (both_touched at false _ _ c.push.new.touches.items c.push-2.new.touches.items c.push-4.new.touches.items (touch_said at false (ReadingLength p s names here) c.in_ok-length.length c.push.new.touches.items c.push-2.new.touches.items (c.in_ok-length.ensures p s names set placed) c.in_ok-push-2.ensures)
    (both_touched at false _ _ c.push-2.new.touches.items c.push-3.new.touches.items c.push-4.new.touches.items (touch_said at false (ReadingField p s names here) c.in_ok-field.field c.push-2.new.touches.items c.push-3.new.touches.items (c.in_ok-field.ensures p s names set placed) c.in_ok-push-3.ensures)
    (touch_said at false (ReadingStatic p s names here) c.reading_static.result c.push-3.new.touches.items c.push-4.new.touches.items (c.reading_static.ensures p s names set placed) g)))))
    c.push-4.ensures

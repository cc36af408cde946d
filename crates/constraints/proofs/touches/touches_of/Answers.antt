use Rattle.std.proofs.Common.{List, [], Contains, refl, sym, subst}
use Rattle.std.proofs.lemmas.List.Elements.{All-contains}
use Rattle.worklists.specs.Growth.{FromOne}
use Rattle.dep_form.specs.declared.rules.Touch.{Touch}
use Rattle.variable_tables.specs.Growth.{GrowsInOrder}
use Rattle.variable_tables.proofs.InOrder.{grows_rising, grows_start, from_whole, from_nothing, chosen_all}
use Rattle.constraint_rules.specs.Settings.{IsPlaced}
use Rattle.constraints.specs.Places.{PlaceBefore, CanBeFollowed}
use Rattle.constraints.specs.Touches.{TouchRises}
use Rattle.constraints.proofs.OfTouches.{OfPlace, touches_rise, touches_listed}
use Rattle.constraints.proofs.touches.touches_of.Goals as goal

pub loop-x-init : goal.loop-x-init
loop-x-init c = λ p s names set all.
    subst (λ (ts : List Touch). GrowsInOrder TouchRises [] ts (FromOne (OfPlace p s names) [])) (sym c.new-touches.ensures.items)
    (grows_start TouchRises (λ u. ⊥) (OfPlace p s names) [])

pub push_touches-requires : goal.push_touches-requires
push_touches-requires c =
    let x = c.x-item.result in
    let among : Contains c.args.places.now x = (c.loop-x.x-index, c.loop-x-test.true, sym c.x-item.is) in
    let (body, point) = All-contains CanBeFollowed c.args.places.now x c.requires.places.each among in
    record { tables = c.requires.ready; body = body; point = point }

pub loop-x-preserved : goal.loop-x-preserved
loop-x-preserved c = λ p s names set all.
    let places = c.args.places.now in
    let x = c.x-item.result in
    let among : Contains places x = (c.loop-x.x-index, c.loop-x-test.true, sym c.x-item.is) in
    grows_rising TouchRises (λ u. ⊥) PlaceBefore (OfPlace p s names) places c.loop-x.x-index x [] c.loop-x.touches.items c.push_touches.new.touches.items
    c.requires.places.order (touches_rise p s names) c.loop-x-test.true c.x-item.is (c.loop-x.invariant p s names set all)
    (c.in_ok-push_touches.ensures p s names set (All-contains (IsPlaced p) places x all among))

pub returns : goal.returns
returns c = λ p s names set all.
    let R = OfPlace p s names in
    let ts = c.loop-x.touches.items in
    touches_listed p s names c.args.places.now ts all
    (chosen_all TouchRises ts (FromOne R c.args.places.now)
    (from_nothing TouchRises (λ u. ⊥) [] ts (FromOne R c.args.places.now) refl
    (from_whole TouchRises (λ u. ⊥) R c.args.places.now c.loop-x.x-index [] ts c.loop-x-test.false (c.loop-x.invariant p s names set all.each))))

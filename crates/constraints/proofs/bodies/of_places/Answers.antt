use Rattle.std.proofs.Common.{List, [], Contains, refl, sym, subst}
use Rattle.std.proofs.lemmas.List.Elements.{All-contains}
use Rattle.worklists.specs.Growth.{FromOne}
use Rattle.dep_form.specs.declared.rules.Constraint.{Constraint}
use Rattle.variable_tables.specs.Growth.{GrowsInOrder}
use Rattle.variable_tables.proofs.InOrder.{grows_rising, grows_start, from_whole, from_nothing, chosen_all}
use Rattle.constraint_rules.specs.Settings.{IsPlaced}
use Rattle.constraints.specs.Places.{PlaceBefore, CanBeFollowed}
use Rattle.constraints.specs.Bodies.{MethodRises, IsConstraintAt}
use Rattle.constraints.proofs.OfRules.{places_rise}
use Rattle.constraints.proofs.bodies.of_places.Goals as goal

pub loop-x-init : goal.loop-x-init
loop-x-init c = λ p s names set all.
    subst (λ (cs : List Constraint). GrowsInOrder MethodRises [] cs (FromOne (IsConstraintAt p s names) [])) (sym c.new-constraints.ensures.items)
    (grows_start MethodRises (λ u. ⊥) (IsConstraintAt p s names) [])

pub push_place-requires : goal.push_place-requires
push_place-requires c =
    let x = c.x-item.result in
    let among : Contains c.args.places.now x = (c.loop-x.x-index, c.loop-x-test.true, sym c.x-item.is) in
    let (body, point) = All-contains CanBeFollowed c.args.places.now x c.requires.places.each among in
    record { tables = c.requires.ready; body = body; point = point }

pub loop-x-preserved : goal.loop-x-preserved
loop-x-preserved c = λ p s names set all.
    let places = c.args.places.now in
    let x = c.x-item.result in
    let among : Contains places x = (c.loop-x.x-index, c.loop-x-test.true, sym c.x-item.is) in
    grows_rising MethodRises (λ u. ⊥) PlaceBefore (IsConstraintAt p s names) places c.loop-x.x-index x [] c.loop-x.constraints.items c.push_place.new.constraints.items
    c.requires.places.order (places_rise p s names) c.loop-x-test.true c.x-item.is (c.loop-x.invariant p s names set all)
    (c.in_ok-push_place.ensures p s names set (All-contains (IsPlaced p) places x all among))

pub returns : goal.returns
returns c = λ p s names set all.
    let R = IsConstraintAt p s names in
    let cs = c.loop-x.constraints.items in
    chosen_all MethodRises cs (FromOne R c.args.places.now)
    (from_nothing MethodRises (λ u. ⊥) [] cs (FromOne R c.args.places.now) refl
    (from_whole MethodRises (λ u. ⊥) R c.args.places.now c.loop-x.x-index [] cs c.loop-x-test.false (c.loop-x.invariant p s names set all)))

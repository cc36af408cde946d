use Rattle.std.proofs.Common.{List, [], map, All, Contains, refl, sym, subst}
use Rattle.std.specs.Prelude.{AllPairs}
use Rattle.std.proofs.lemmas.List.Elements.{All-contains, All-nil}
use Rattle.slicer_ids.specs.Order.{StatementBefore}
use Rattle.worklists.specs.Growth.{FromOne}
use Rattle.class_form.specs.declared.body.Body.{Body}
use Rattle.variable_tables.specs.Growth.{GrowsInOrder}
use Rattle.variable_tables.specs.Members.{MethodRises}
use Rattle.variable_tables.specs.Statements.{IsFollowed}
use Rattle.variable_tables.proofs.InOrder.{grows_rising, grows_start, from_whole, from_nothing, chosen_all}
use Rattle.constraint_rules.specs.Settings.{place_of}
use Rattle.constraint_rules.specs.declared.tables.Reachable.{Reachable}
use Rattle.constraints.specs.Places.{IsPlaceIn, IsThere}
use Rattle.constraints.proofs.OfPlaces.{bodies_rise, statements_listed}
use Rattle.constraints.proofs.places.places.Goals as goal

pub loop-body-init : goal.loop-body-init
loop-body-init c = record {
  order = subst (λ (xs : List Reachable). GrowsInOrder StatementBefore [] (map place_of xs) (FromOne IsPlaceIn [])) (sym c.new-places.ensures.items)
      (grows_start StatementBefore (λ t. ⊥) IsPlaceIn []);
  each = subst (λ (xs : List Reachable). All (IsThere c.args.h.now c.args.bodies.now) xs) (sym c.new-places.ensures.items) (All-nil (IsThere c.args.h.now c.args.bodies.now));
}

pub push_body-requires : goal.push_body-requires
push_body-requires c =
    let (p, of, e) = c.requires.program in
    let x = c.body-item.result in
    let among : Contains c.args.bodies.now x = (c.loop-body.body-index, c.loop-body-test.true, sym c.body-item.is) in
    record {
      body = (p, of, subst (λ (bs : List Body). Contains bs x) (sym e) among);
      followed = All-contains IsFollowed c.args.bodies.now x c.requires.followed among;
    }

pub loop-body-preserved : goal.loop-body-preserved
loop-body-preserved c =
    let (p, of, e) = c.requires.program in
    let bodies = c.args.bodies.now in
    let x = c.body-item.result in
    let order : AllPairs MethodRises bodies = subst (λ (bs : List Body). AllPairs MethodRises bs) e of.read.bodies in
    record {
      order = grows_rising StatementBefore (λ t. ⊥) MethodRises IsPlaceIn bodies c.loop-body.body-index x
          [] (map place_of c.loop-body.places.items) (map place_of c.push_body.new.places.items)
          order bodies_rise c.loop-body-test.true c.body-item.is c.loop-body.invariant.order c.in_ok-push_body.ensures.order;
      each = c.in_ok-push_body.ensures.each bodies (c.loop-body.body-index, c.loop-body-test.true, sym c.body-item.is) c.loop-body.invariant.each;
    }

pub returns : goal.returns
returns c =
    let bodies = c.args.bodies.now in
    let ts = map place_of c.loop-body.places.items in
    record {
      each = c.loop-body.invariant.each;
      listed = λ p of e. statements_listed p bodies e ts
          (chosen_all StatementBefore ts (FromOne IsPlaceIn bodies)
          (from_nothing StatementBefore (λ t. ⊥) [] ts (FromOne IsPlaceIn bodies) refl
          (from_whole StatementBefore (λ t. ⊥) IsPlaceIn bodies c.loop-body.body-index [] ts c.loop-body-test.false c.loop-body.invariant.order)));
    }

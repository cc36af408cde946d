use Rattle.std.proofs.Common.{List, [], map, All, Contains, refl, sym, subst}
use Rattle.std.proofs.lemmas.List.Elements.{All-contains, All-nil}
use Rattle.worklists.specs.Growth.{FromOne}
use Rattle.dep_form.specs.declared.call_site.CallSite.{CallSite}
use Rattle.variable_tables.specs.Growth.{GrowsInOrder}
use Rattle.variable_tables.specs.Tables.{thrown_by_call}
use Rattle.variable_tables.proofs.InOrder.{grows_rising, grows_start, from_whole, from_nothing, chosen_all}
use Rattle.constraint_rules.specs.Settings.{IsPlaced}
use Rattle.constraints.specs.Places.{PlaceBefore, CanBeFollowed}
use Rattle.constraints.specs.Calls.{IsKnownCall, ThrownBefore, IsThrownAt}
use Rattle.constraints.proofs.OfCalls.{thrown_rise}
use Rattle.constraints.proofs.call_sites.call_sites.Goals as goal

pub loop-x-init : goal.loop-x-init
loop-x-init c = record {
  thrown = λ p s names set all. subst (λ (ks : List CallSite). GrowsInOrder ThrownBefore [] (map thrown_by_call ks) (FromOne (IsThrownAt c.args.t.now.variables.now.exceptions) [])) (sym c.new-calls.ensures.items)
      (grows_start ThrownBefore (λ u. ⊥) (IsThrownAt c.args.t.now.variables.now.exceptions) []);
  known = λ p s names set all. subst (λ (ks : List CallSite). All (IsKnownCall p s names) ks) (sym c.new-calls.ensures.items) (All-nil (IsKnownCall p s names));
}

pub push_call-requires : goal.push_call-requires
push_call-requires c =
    let x = c.x-item.result in
    let among : Contains c.args.places.now x = (c.loop-x.x-index, c.loop-x-test.true, sym c.x-item.is) in
    let (body, point) = All-contains CanBeFollowed c.args.places.now x c.requires.places.each among in
    record { tables = c.requires.ready; body = body; point = point }

pub loop-x-preserved : goal.loop-x-preserved
loop-x-preserved c =
    let places = c.args.places.now in
    let x = c.x-item.result in
    let among : Contains places x = (c.loop-x.x-index, c.loop-x-test.true, sym c.x-item.is) in
    let exceptions = c.args.t.now.variables.now.exceptions in
    record {
      thrown = λ p s names set all.
          grows_rising ThrownBefore (λ u. ⊥) PlaceBefore (IsThrownAt exceptions) places c.loop-x.x-index x [] (map thrown_by_call c.loop-x.calls.items) (map thrown_by_call c.push_call.new.calls.items)
          c.requires.places.order (thrown_rise exceptions) c.loop-x-test.true c.x-item.is (c.loop-x.invariant.thrown p s names set all)
          (c.in_ok-push_call.ensures.thrown p s names set (All-contains (IsPlaced p) places x all among));
      known = λ p s names set all. c.in_ok-push_call.ensures.known p s names set (All-contains (IsPlaced p) places x all among) (c.loop-x.invariant.known p s names set all);
    }

pub returns-clause-thrown : goal.returns-clause-thrown
returns-clause-thrown c = λ p s names set all.
    let R = IsThrownAt c.args.t.now.variables.now.exceptions in
    let ks = map thrown_by_call c.loop-x.calls.items in
    chosen_all ThrownBefore ks (FromOne R c.args.places.now)
    (from_nothing ThrownBefore (λ u. ⊥) [] ks (FromOne R c.args.places.now) refl
    (from_whole ThrownBefore (λ u. ⊥) R c.args.places.now c.loop-x.x-index [] ks c.loop-x-test.false (c.loop-x.invariant.thrown p s names set all)))

pub returns-clause-known : goal.returns-clause-known
returns-clause-known c = λ p s names set all. c.loop-x.invariant.known p s names set all

use Rattle.std.proofs.Common.{List, map, length, sym, subst}
use Rattle.std.specs.Prelude.{All}
use Rattle.slicer_ids.specs.Sets.{IsOrderedListOf}
use Rattle.worklists.specs.Growth.{FromOne}
use Rattle.dep_form.specs.declared.call_site.CallSite.{CallSite}
use Rattle.variable_tables.specs.Tables.{thrown_by_call}
use Rattle.constraint_rules.specs.Settings.{IsPlaced}
use Rattle.constraint_rules.specs.declared.tables.Reachable.{Reachable}
use Rattle.constraints.specs.Places.{AreInOrder}
use Rattle.constraints.specs.Bodies.{AreAllPlaces}
use Rattle.constraints.specs.Calls.{ThrownBefore, IsThrownAt, AreRulesOf}
use Rattle.constraints.proofs.OfPlaces.{in_order_of, all_places}
use Rattle.constraints.proofs.Tabled.{exceptions_are}
use Rattle.constraints.proofs.parts.parts_of.Goals as goal

pub call_sites-requires : goal.call_sites-requires
call_sites-requires c = record {
  ready = c.requires.ready;
  places = subst (λ (xs : List Reachable). AreInOrder xs) (sym c.as_slice.ensures.value)
      (in_order_of c.args.t.now.h.now c.args.bodies.now c.in_ok-places.places.items c.in_ok-places.ensures c.requires.program);
}

pub all_constraints-requires : goal.all_constraints-requires
all_constraints-requires c = record {
  ready = c.requires.ready;
  sites = c.requires.sites;
  places = subst (λ (xs : List Reachable). AreInOrder xs) (sym c.as_slice-3.ensures.value)
      (in_order_of c.args.t.now.h.now c.args.bodies.now c.in_ok-places.places.items c.in_ok-places.ensures c.requires.program);
}

pub touches_of-requires : goal.touches_of-requires
touches_of-requires c = record {
  ready = c.requires.ready;
  places = subst (λ (xs : List Reachable). AreInOrder xs) (sym c.as_slice-4.ensures.value)
      (in_order_of c.args.t.now.h.now c.args.bodies.now c.in_ok-places.places.items c.in_ok-places.ensures c.requires.program);
}

pub returns : goal.returns
returns c = λ p s names set bodies entries number.
    let t = c.args.t.now in
    let xs = c.in_ok-places.places.items in
    let ks = c.in_ok-calls.calls.items in
    let all : AreAllPlaces p xs = all_places t.h.now c.args.bodies.now xs c.in_ok-places.ensures p set.of bodies in
    let first = subst (λ (ys : List Reachable). All (IsPlaced p) ys) (sym c.as_slice.ensures.value) all.each in
    record {
      constraints = c.in_ok-constraints.ensures p s names set (subst (λ (ys : List Reachable). AreAllPlaces p ys) (sym c.as_slice-3.ensures.value) all) entries number;
      thrown = exceptions_are p (length t.foreign.now) t.variables.now xs ks set.variables all
          (subst (λ (ys : List Reachable). IsOrderedListOf ThrownBefore (map thrown_by_call ks) (FromOne (IsThrownAt t.variables.now.exceptions) ys)) c.as_slice.ensures.value
          (c.in_ok-calls.ensures.thrown p s names set first));
      calls = c.in_ok-calls.ensures.known p s names set first;
      rules = subst (λ (ys : List CallSite). AreRulesOf ys c.in_ok-rules.rules.items) c.as_slice-2.ensures.value c.in_ok-rules.ensures;
      touches = c.in_ok-touches.ensures p s names set (subst (λ (ys : List Reachable). AreAllPlaces p ys) (sym c.as_slice-4.ensures.value) all);
    }

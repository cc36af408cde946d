use Rattle.std.proofs.Common.{◌↔◌, List, Contains, sym, subst}
use Rattle.dep_form.specs.declared.effects.Location.{Location}
use Rattle.mod_ref.specs.Locations.{IsLocationOf}
use Rattle.mod_ref.specs.declared.effects.Effect.{Effect}
use Rattle.mod_ref.proofs.Tracing.{traced_is}
use Rattle.mod_ref.proofs.finding.trace.Goals as goal

pub returns : goal.returns
returns c =
    let s = c.args.system.now in
    let one = subst (λ (xs : List Effect). (l : Location) → Contains c.in_ok-defined_locations.defined_locations.items l ↔ IsLocationOf xs l) c.as_slice.ensures.value c.in_ok-defined_locations.ensures.members in
    let other = subst (λ (xs : List Effect). (l : Location) → Contains c.in_ok-used_locations.used_locations.items l ↔ IsLocationOf xs l) c.as_slice-2.ensures.value c.in_ok-used_locations.ensures.members in
    let both = subst (λ (ls : List Location). (l : Location) → Contains c.in_both-locations.result.items l ↔ (Contains c.in_ok-defined_locations.defined_locations.items l × Contains ls l)) c.as_slice-3.ensures.value c.in_both-locations.ensures.members in
    record {
      defined = c.in_ok-defined.ensures;
      used = c.in_ok-used.ensures;
      order = c.in_both-locations.ensures.order;
      members = λ l.
          let t = traced_is s c.in_ok-defined.defined.items c.in_ok-used.used.items c.in_ok-defined.ensures c.in_ok-used.ensures l in
          (λ h. let p = (both l).0 h in t.0 ((one l).0 p.0, (other l).0 p.1), λ h. let p = t.1 h in (both l).1 ((one l).1 p.0, (other l).1 p.1));
    }

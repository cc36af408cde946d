use Rattle.std.proofs.Common.{◌≡◌, ℕ, List, [], Some, length, ap, subst, refl, arith}
use Rattle.worklists.proofs.Growing.{FromBelow}
use Rattle.slicer_ids.specs.declared.ids.Statement.{Statement}
use Rattle.dep_form.specs.declared.call_site.CallSite.{CallSite}
use Rattle.mod_ref.specs.Gains.{Gains}
use Rattle.mod_ref.specs.Direct.{IsFreshAt, IsFreshPlace}
use Rattle.mod_ref.proofs.Gaining.{gains_start, gains_next, gains_same, gained}
use Rattle.mod_ref.proofs.Freshly.{places_is}
use Rattle.mod_ref.proofs.fresh.fresh_places.Goals as goal

pub loop-number-init : goal.loop-number-init
loop-number-init c = gains_start (λ n t. IsFreshAt c.args.system.now (record { 0 = n }) t) c.new-places.result.items c.new-places.ensures.items

pub loop-number-preserved : goal.loop-number-preserved
loop-number-preserved c =
    let s = c.args.system.now in
    gains_next (λ n t. IsFreshAt s (record { 0 = n }) t) c.loop-number.number [] c.loop-number.places.items c.add_place.new.places.items c.loop-number.invariant
    (gains_same c.loop-number.places.items c.add_place.new.places.items (λ t. c.fresh_place-place.result ≡ Some t) (λ t. IsFreshAt s (record { 0 = c.loop-number.number }) t) c.fresh_place-place.ensures c.in_ok-add_place.ensures)

pub returns-clause-members : goal.returns-clause-members
returns-clause-members c = λ t.
    let s = c.args.system.now in
    let end : c.loop-number.number ≡ length s.calls = omega (arith, c.loop-number-test.false, c.loop-number.auto.number-end, ap (λ (ks : List CallSite). length ks) c.items-number-end.ensures) in
    let all = subst (λ (n : ℕ). Gains [] c.loop-number.places.items (FromBelow (λ n t. IsFreshAt s (record { 0 = n }) t) n)) end c.loop-number.invariant in
    let is = gained [] c.loop-number.places.items _ refl all t in
    (λ h. (places_is s t).0 (is.0 ((c.in_order.ensures.members t).0 h)), λ h. (c.in_order.ensures.members t).1 (is.1 ((places_is s t).1 h)))

use Rattle.std.proofs.Common.{◌≡◌, List, AllPairs, length, sym, ap, subst, ◌∙◌, Some, ◌↔◌, arith}
use Rattle.std.specs.Prelude.{slice_get}
use Rattle.slicer_ids.specs.declared.ids.LocId.{LocId}
use Rattle.dep_form.specs.declared.effects.Location.{Location}
use Rattle.dep_form.specs.Effects.{LocationBefore}
use Rattle.mod_ref.proofs.Gaining.{gains_none}
use Rattle.mod_ref.proofs.Touched.{told}
use Rattle.input_tables.specs.Effects.{AtLocation, effect}
use Rattle.input_tables.proofs.Collecting.{number_found, number_missing}
use Rattle.input_tables.proofs.effects.add_location.Goals as goal

pub number_of-requires-clause-order : goal.number_of-requires-clause-order
number_of-requires-clause-order c = subst (AllPairs LocationBefore) (sym c.items.ensures) c.requires.effects.locations.order

pub number_of-requires-clause-few : goal.number_of-requires-clause-few
number_of-requires-clause-few c = omega (arith, c.requires.few, ap (λ (ls : List Location). length ls) c.items.ensures)

pub returns-in-None : goal.returns-in-None
returns-in-None c = gains_none c.args.effects.now.items (AtLocation c.args.scene.now.effects.now c.args.at c.args.location)
    (number_missing c.args.scene.now.effects.now c.args.at c.args.location c.number_of.result (subst (λ (ls : List Location). (n : LocId) → (c.number_of.result ≡ Some n) ↔ (slice_get ls n.0 ≡ Some c.args.location)) c.items.ensures c.number_of.ensures) c.in-None.is)

pub returns-in-Some : goal.returns-in-Some
returns-in-Some c = told c.push.result c.args.effects.now.items c.push.new.effects.items (λ x. x ≡ effect c.args.at c.in-Some.n) (AtLocation c.args.scene.now.effects.now c.args.at c.args.location)
    (number_found c.args.scene.now.effects.now c.args.at c.args.location c.number_of.result c.in-Some.n (subst (λ (ls : List Location). (n : LocId) → (c.number_of.result ≡ Some n) ↔ (slice_get ls n.0 ≡ Some c.args.location)) c.items.ensures c.number_of.ensures) c.in-Some.is) c.push.ensures

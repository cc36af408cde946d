use Rattle.dep_form.specs.declared.effects.Location.TheVariants.{Cell}
use Rattle.dep_form.specs.Constraints.{elements_field, length_field}
use Rattle.mod_ref.proofs.Touched.{both_told}
use Rattle.input_tables.specs.Effects.{AtArray, AtLocation}
use Rattle.input_tables.proofs.fresh.add_array.Goals as goal

pub returns : goal.returns
returns c =
    let s = c.args.scene.now.system.now in
    let mr = c.args.scene.now.effects.now in
    both_told c.add_location-2.result c.args.effects.now.items c.add_location.new.effects.items c.add_location-2.new.effects.items (AtLocation mr c.args.at (Cell c.args.site (length_field s))) (AtLocation mr c.args.at (Cell c.args.site (elements_field s))) (AtArray s mr c.args.site c.args.at)
    (λ x. (λ h. h, λ h. h)) c.in_ok-add_location.ensures c.add_location-2.ensures

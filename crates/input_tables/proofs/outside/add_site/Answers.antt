use Rattle.std.proofs.Common.{◌≡◌, sym, ◌∙◌}
use Rattle.dep_form.specs.declared.effects.Location.TheVariants.{Cell}
use Rattle.mod_ref.proofs.Gaining.{gains_none}
use Rattle.mod_ref.proofs.Touched.{told}
use Rattle.input_tables.specs.Effects.{AtLocation, AtSite}
use Rattle.input_tables.proofs.Collecting.{no_field, some_field}
use Rattle.input_tables.proofs.outside.add_site.Goals as goal

pub returns-in-None : goal.returns-in-None
returns-in-None c = gains_none c.args.effects.now.items (AtSite c.args.scene.now.system.now c.args.scene.now.effects.now c.args.elements c.args.at c.args.site) (λ x. no_field c.args.scene.now.system.now c.args.scene.now.effects.now c.args.at c.args.elements c.args.site x (sym c.field_of.ensures ∙ c.in-None.is))

pub returns-in-Some : goal.returns-in-Some
returns-in-Some c = told c.add_location.result c.args.effects.now.items c.add_location.new.effects.items (AtLocation c.args.scene.now.effects.now c.args.at (Cell c.args.site c.in-Some.field)) (AtSite c.args.scene.now.system.now c.args.scene.now.effects.now c.args.elements c.args.at c.args.site)
    (some_field c.args.scene.now.system.now c.args.scene.now.effects.now c.args.at c.args.elements c.args.site c.in-Some.field (sym c.field_of.ensures ∙ c.in-Some.is)) c.add_location.ensures

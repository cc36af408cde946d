use Rattle.std.proofs.Common.{◌≡◌, sym, subst, List}
use Rattle.std.specs.Prelude.{OnOk, All}
use Rattle.worklists.specs.Growth.{FromOne}
use Rattle.dep_form.specs.declared.effects.Location.TheVariants.{Cell, Static as StaticOf}
use Rattle.dep_form.specs.declared.rules.Spot.{Spot}
use Rattle.dep_form.specs.declared.rules.Var.{Var}
use Rattle.dep_form.specs.declared.rules.Spot.TheVariants.{Field, Made, Static}
use Rattle.mod_ref.specs.Gains.{Gains}
use Rattle.mod_ref.proofs.Touched.{told}
use Rattle.input_tables.specs.Effects.{AtLocation, AtSpot, AtVariable}
use Rattle.input_tables.proofs.Collecting.{field_is, made_is, static_is}
use Rattle.input_tables.proofs.touches.add_spot.Goals as goal

pub returns-in-Field : goal.returns-in-Field
returns-in-Field c =
    let s = c.args.scene.now.system.now in
    let mr = c.args.scene.now.effects.now in
    let old = c.args.effects.now.items in
    let new = c.add_variables.new.effects.items in
    let r = c.add_variables.result in
    subst (λ (t : Spot). OnOk r (Gains old new (AtSpot s mr c.args.at t))) (sym c.in-Field.is)
    (told r old new (FromOne (AtVariable s mr c.in-Field.field c.args.at) c.in-Field.variables) (AtSpot s mr c.args.at (Field c.in-Field.variables c.in-Field.field)) (field_is s mr c.args.at c.in-Field.variables c.in-Field.field)
    (subst (λ (vs : List Var). OnOk r (Gains old new (FromOne (AtVariable s mr c.in-Field.field c.args.at) vs))) c.items.ensures c.add_variables.ensures))

pub returns-in-Made : goal.returns-in-Made
returns-in-Made c =
    let s = c.args.scene.now.system.now in
    let mr = c.args.scene.now.effects.now in
    let old = c.args.effects.now.items in
    let new = c.add_location.new.effects.items in
    let r = c.add_location.result in
    subst (λ (t : Spot). OnOk r (Gains old new (AtSpot s mr c.args.at t))) (sym c.in-Made.is)
    (told r old new (AtLocation mr c.args.at (Cell c.in-Made.site c.in-Made.field)) (AtSpot s mr c.args.at (Made c.in-Made.site c.in-Made.field)) (made_is s mr c.args.at c.in-Made.site c.in-Made.field) c.add_location.ensures)

pub returns-in-Static : goal.returns-in-Static
returns-in-Static c =
    let s = c.args.scene.now.system.now in
    let mr = c.args.scene.now.effects.now in
    let old = c.args.effects.now.items in
    let new = c.add_location-in-Static.new.effects.items in
    let r = c.add_location-in-Static.result in
    subst (λ (t : Spot). OnOk r (Gains old new (AtSpot s mr c.args.at t))) (sym c.in-Static.is)
    (told r old new (AtLocation mr c.args.at (StaticOf c.in-Static.v)) (AtSpot s mr c.args.at (Static c.in-Static.v)) (static_is s mr c.args.at c.in-Static.v) c.add_location-in-Static.ensures)

use Rattle.worklists.specs.Growth.{FromOne}
use Rattle.std.proofs.Common.{◌≡◌, sym, subst, List}
use Rattle.std.specs.Prelude.{OnOk}
use Rattle.dep_form.specs.declared.effects.Location.TheVariants.{Static as StaticOf}
use Rattle.dep_form.specs.declared.rules.Spot.{Spot}
use Rattle.dep_form.specs.declared.rules.Var.{Var}
use Rattle.dep_form.specs.declared.rules.Spot.TheVariants.{Field, Made, Static}
use Rattle.mod_ref.specs.Gains.{Gains}
use Rattle.mod_ref.specs.Direct.{AtSpot, AtVariable, cell, effect}
use Rattle.mod_ref.proofs.Touched.{told, field_is, made_is, static_is}
use Rattle.mod_ref.proofs.touches.add_spot.Goals as goal

pub returns-in-Field : goal.returns-in-Field
returns-in-Field c =
    let s = c.args.system.now in
    let old = c.args.effects.now.items.items in
    let new = c.add_variables.new.effects.items.items in
    let r = c.add_variables.result in
    subst (λ (t : Spot). OnOk r (Gains old new (AtSpot s c.args.method t))) (sym c.in-Field.is)
    (told r old new (FromOne (AtVariable s c.in-Field.field c.args.method) c.in-Field.variables) (AtSpot s c.args.method (Field c.in-Field.variables c.in-Field.field)) (field_is s c.args.method c.in-Field.variables c.in-Field.field)
    (subst (λ (vs : List Var). OnOk r (Gains old new (FromOne (AtVariable s c.in-Field.field c.args.method) vs))) c.items.ensures c.add_variables.ensures))

pub returns-in-Made : goal.returns-in-Made
returns-in-Made c =
    let s = c.args.system.now in
    let old = c.args.effects.now.items.items in
    let new = c.add.new.self.items.items in
    let r = c.add.result in
    subst (λ (t : Spot). OnOk r (Gains old new (AtSpot s c.args.method t))) (sym c.in-Made.is)
    (told r old new (λ x. x ≡ cell c.in-Made.site c.in-Made.field c.args.method) (AtSpot s c.args.method (Made c.in-Made.site c.in-Made.field)) (made_is s c.args.method c.in-Made.site c.in-Made.field) c.add.ensures)

pub returns-in-Static : goal.returns-in-Static
returns-in-Static c =
    let s = c.args.system.now in
    let old = c.args.effects.now.items.items in
    let new = c.add-in-Static.new.self.items.items in
    let r = c.add-in-Static.result in
    subst (λ (t : Spot). OnOk r (Gains old new (AtSpot s c.args.method t))) (sym c.in-Static.is)
    (told r old new (λ x. x ≡ effect (StaticOf c.in-Static.v) c.args.method) (AtSpot s c.args.method (Static c.in-Static.v)) (static_is s c.args.method c.in-Static.v) c.add-in-Static.ensures)

-- Spots of a form, from what their parts may be.
use Rattle.std.proofs.Common.{Option}
use Rattle.slicer_ids.specs.declared.ids.SiteId.{SiteId}
use Rattle.slicer_ids.specs.declared.ids.FieldId.{FieldId}
use Rattle.dep_form.specs.declared.rules.Var.{Var}
use Rattle.dep_form.specs.declared.rules.Spot.{Spot}
use Rattle.constraint_rules.specs.One.{IsOne, IsFound}
use Rattle.constraints.specs.Touches.{FieldOf, StaticOf, MadeOf}
use Rattle.constraints.proofs.Standing.{one_same}

pub field_one : (B : Var → Type 0) (F : FieldId → Type 0) (b : Option Var) (f : Option FieldId) (o : Option Spot) → IsOne B b → IsOne F f → IsOne (FieldOf (IsFound b) (IsFound f)) o → IsOne (FieldOf B F) o
field_one B F b f o x y one = one_same (FieldOf (IsFound b) (IsFound f)) (FieldOf B F) o
    (λ sp (v, g, base, field, e). (v, g, (x v).1 base, (y g).1 field, e)) (λ sp (v, g, base, field, e). (v, g, (x v).0 base, (y g).0 field, e)) one

pub static_one : (V : Var → Type 0) (v : Option Var) (o : Option Spot) → IsOne V v → IsOne (StaticOf (IsFound v)) o → IsOne (StaticOf V) o
static_one V v o x one = one_same (StaticOf (IsFound v)) (StaticOf V) o (λ sp (w, is, e). (w, (x w).1 is, e)) (λ sp (w, is, e). (w, (x w).0 is, e)) one

pub made_one : (S : SiteId → Type 0) (F : FieldId → Type 0) (n : Option SiteId) (f : Option FieldId) (o : Option Spot) → IsOne S n → IsOne F f → IsOne (MadeOf (IsFound n) (IsFound f)) o → IsOne (MadeOf S F) o
made_one S F n f o x y one = one_same (MadeOf (IsFound n) (IsFound f)) (MadeOf S F) o
    (λ sp (m, g, site, field, e). (m, g, (x m).1 site, (y g).1 field, e)) (λ sp (m, g, site, field, e). (m, g, (x m).0 site, (y g).0 field, e)) one

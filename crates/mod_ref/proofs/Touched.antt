-- What statements that are no calls define and use.
use Rattle.std.proofs.Common.{◌≡◌, ◌⊎◌, ◌↔◌, Bool, List, Contains, Some, Ok, Err, Result, OnOk, refl, sym, ap, subst, ◌∙◌}
use Rattle.std.specs.Prelude.{slice_get}
use Rattle.slicer_ids.specs.declared.ids.FieldId.{FieldId}
use Rattle.slicer_ids.specs.declared.ids.MethodId.{MethodId}
use Rattle.slicer_ids.specs.declared.ids.SiteId.{SiteId}
use Rattle.slicer_ids.specs.declared.ids.Statement.{Statement}
use Rattle.worklists.specs.Growth.{FromOne}
use Rattle.dep_form.specs.declared.effects.Location.{Location}
use Rattle.dep_form.specs.declared.effects.Location.TheVariants.{Cell, Static as StaticOf}
use Rattle.dep_form.specs.declared.rules.Spot.{Spot}
use Rattle.dep_form.specs.declared.rules.Spot.TheVariants.{Field, Made, Static}
use Rattle.dep_form.specs.declared.rules.Touch.{Touch}
use Rattle.dep_form.specs.declared.rules.Var.{Var}
use Rattle.dep_form.specs.declared.system.System.{System}
use Rattle.dep_form.specs.Constraints.{SystemHolds}
use Rattle.dep_form.specs.Effects.{IsSpotAt, field, made, static}
use Rattle.dep_form.specs.PointsTo.{Has, Reached}
use Rattle.mod_ref.specs.Gains.{Gains}
use Rattle.mod_ref.specs.Direct.{AtSpot, AtTouch, AtTouches, AtVariable, cell, effect}
use Rattle.mod_ref.specs.declared.effects.Effect.{Effect}
use Rattle.mod_ref.proofs.Gaining.{gains_both, gains_same}
use Rattle.mod_ref.proofs.Orders.{effect_is}

-- what was gained, said otherwise, where there was memory
pub told : {A : Type 0} {E : Type 0} (r : Result (Unit {0}) E) (old new : List A) (P Q : A → Type 0) → ((x : A) → P x ↔ Q x) → OnOk r (Gains old new P) → OnOk r (Gains old new Q)
told (Ok x) old new P Q is h = gains_same old new P Q is h
told (Err e) old new P Q is h = tt

pub variable_is : (s : System) (f : FieldId) (m : MethodId) (v : Var) (sites : List SiteId) → ((h : SiteId) → Contains sites h ↔ SystemHolds s (Has v h))
    → (x : Effect) → FromOne (λ h y. y ≡ cell h f m) sites x ↔ AtVariable s f m v x
variable_is s f m v sites is x = (λ (h, c, e). (h, (is h).0 c, e), λ (h, k, e). (h, (is h).1 k, e))

field_to : (s : System) (m : MethodId) (vs : List Var) (f : FieldId) (x : Effect) → FromOne (AtVariable s f m) vs x → AtSpot s m (Field vs f) x
field_to s m vs f x (v, c, (h, k, e)) = (Cell h f, field c k, e)

field_from : (s : System) (m : MethodId) (vs : List Var) (f : FieldId) (l : Location) (x : Effect) → IsSpotAt s (Field vs f) l → x ≡ effect l m → FromOne (AtVariable s f m) vs x
field_from s m vs f l x (field {v = v} {h = h} c k) e = (v, c, (h, k, e))

pub field_is : (s : System) (m : MethodId) (vs : List Var) (f : FieldId) (x : Effect) → FromOne (AtVariable s f m) vs x ↔ AtSpot s m (Field vs f) x
field_is s m vs f x = (field_to s m vs f x, λ (l, at, e). field_from s m vs f l x at e)

made_from : (s : System) (m : MethodId) (h : SiteId) (f : FieldId) (l : Location) (x : Effect) → IsSpotAt s (Made h f) l → x ≡ effect l m → x ≡ cell h f m
made_from s m h f l x made e = e

pub made_is : (s : System) (m : MethodId) (h : SiteId) (f : FieldId) (x : Effect) → (x ≡ cell h f m) ↔ AtSpot s m (Made h f) x
made_is s m h f x = (λ e. (Cell h f, made, e), λ (l, at, e). made_from s m h f l x at e)

static_from : (s : System) (m : MethodId) (v : Var) (l : Location) (x : Effect) → IsSpotAt s (Static v) l → x ≡ effect l m → x ≡ effect (StaticOf v) m
static_from s m v l x static e = e

pub static_is : (s : System) (m : MethodId) (v : Var) (x : Effect) → (x ≡ effect (StaticOf v) m) ↔ AtSpot s m (Static v) x
static_is s m v x = (λ e. (StaticOf v, static, e), λ (l, at, e). static_from s m v l x at e)

touch_made : (t : Touch) (write : Bool) → t.write ≡ write → t ≡ record { place = t.place; write = write; spot = t.spot }
touch_made t write e = rw (← e) refl

-- all touches of the system
pub touches_is : (s : System) (write : Bool) (x : Effect) → FromOne (AtTouch s write) s.touches x ↔ AtTouches s write x
touches_is s write x = (to, from)
  where
    to : FromOne (AtTouch s write) s.touches x → AtTouches s write x
    to (t, c, (w, reached, (l, at, e))) =
        let m : x.method ≡ t.place.method = ap (λ (y : Effect). y.method) e in
        let loc : x.location ≡ l = ap (λ (y : Effect). y.location) e in
        (subst (λ n. SystemHolds s (Reached n)) (sym m) reached, (t.place, t.spot, sym m, subst (Contains s.touches) (touch_made t write w) c, subst (IsSpotAt s t.spot) (sym loc) at))

    from : AtTouches s write x → FromOne (AtTouch s write) s.touches x
    from (reached, (t, spot, m, c, at)) =
        (record { place = t; write = write; spot = spot }, c, (refl, subst (λ n. SystemHolds s (Reached n)) (sym m) reached, (x.location, at, effect_is x (effect x.location t.method) refl (sym m))))

-- two parts, the second where there was memory
pub both_told : {A : Type 0} {E : Type 0} (r : Result (Unit {0}) E) (old mid new : List A) (P Q R : A → Type 0) → ((x : A) → (P x ⊎ Q x) ↔ R x) → Gains old mid P → OnOk r (Gains mid new Q) → OnOk r (Gains old new R)
both_told (Ok x) old mid new P Q R is g h = gains_same old new (λ y. P y ⊎ Q y) R is (gains_both old mid new P Q g h)
both_told (Err e) old mid new P Q R is g h = tt

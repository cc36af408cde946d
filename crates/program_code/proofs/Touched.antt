-- What statements that are no calls define and use, by the touches of a system.
use Rattle.std.proofs.Common.{◌≡◌, Bool, true, false, refl, sym, subst}
use Rattle.slicer_ids.specs.declared.ids.MethodId.{MethodId}
use Rattle.slicer_ids.specs.declared.ids.SiteId.{SiteId}
use Rattle.slicer_ids.specs.declared.ids.FieldId.{FieldId}
use Rattle.slicer_ids.specs.declared.ids.Statement.{Statement}
use Rattle.class_form.specs.Opcodes.{IsCall}
use Rattle.dep_form.specs.declared.rules.Var.{Var}
use Rattle.dep_form.specs.declared.rules.Spot.{Spot}
use Rattle.dep_form.specs.declared.rules.Spot.TheVariants as spot
use Rattle.dep_form.specs.declared.system.System.{System}
use Rattle.dep_form.specs.declared.effects.Location.{Location as SystemLocation}
use Rattle.dep_form.specs.declared.effects.Location.TheVariants.{Cell, Static}
use Rattle.dep_form.specs.PointsTo.{Reached}
use Rattle.dep_form.specs.Constraints.{SystemHolds}
use Rattle.dep_form.specs.Effects as system
use Rattle.program_form.specs.Programs.{Program}
use Rattle.program_form.specs.Statements.{HasOpcode}
use Rattle.program_form.specs.Facts.{Variable, IsStaticVariable}
use Rattle.program_form.specs.Effects.{Location, StaticOf, IsStatement, Defines, Uses}
use Rattle.program_form.specs.Systems.{SiteNumber, FieldNumber, IsSpot, Touches, IsSystemOf}
use Rattle.program_form.specs.Systems as tied
use Rattle.program_code.specs.Codes.{IsProgramOfCode}
use Rattle.program_code.specs.Locations.{LocationNumber, cell_number, static_number}
use Rattle.program_code.proofs.OneInstruction.{one_opcode}
use Rattle.program_code.proofs.Numbers.{one_number, one_field_number, one_static}
use Rattle.program_code.proofs.Outside.{reached_back}

-- where the location is a static variable, some statement names it
abbrev pub IsNamed : Program → Statement → Location → Type 0
IsNamed p t l = (v : Variable) → l ≡ StaticOf v → IsStaticVariable p t v

module _ (p : Program) (s : System) where
  spot_there : (t : Statement) (k : Spot) (l : Location) (x : SystemLocation) → IsNamed p t l → LocationNumber p s l x → IsSpot p s k l → system.IsSpotAt s k x
  spot_there t k l x named (cell_number {b} {f} {n} {g} site field) (tied.field {vs = vs} {g = h} {n = m} c holds other_site other_field) =
      let same = one_number p m n b other_site site in
      let field_same = one_field_number s f h g other_field field in
      subst (λ (z : FieldId). system.IsSpotAt s (spot.Field vs h) (Cell n z)) field_same (subst (λ (z : SiteId). system.IsSpotAt s (spot.Field vs h) (Cell z h)) same (system.field c holds))
  spot_there t k l x named (cell_number {b} {f} {n} {g} site field) (tied.made {n = m} {g = h} other_site other_field) =
      let same = one_number p m n b other_site site in
      let field_same = one_field_number s f h g other_field field in
      subst (λ (z : FieldId). system.IsSpotAt s (spot.Made m h) (Cell n z)) field_same (subst (λ (z : SiteId). system.IsSpotAt s (spot.Made m h) (Cell z h)) same system.made)
  spot_there t k l x named (static_number {v = v} {x = y} number) (tied.static {x = z} other) =
      let same = one_static p s t v z y (named v refl) other number in
      subst (λ (w : Var). system.IsSpotAt s (spot.Static z) (Static w)) same system.static

  spot_back : (k : Spot) (l : Location) (x : SystemLocation) → LocationNumber p s l x → system.IsSpotAt s k x → IsSpot p s k l
  spot_back k l x (cell_number site field) (system.field c holds) = tied.field c holds site field
  spot_back k l x (cell_number site field) system.made = tied.made site field
  spot_back k l x (static_number number) system.static = tied.static number

  pub touches_there : (t : Statement) (write : Bool) (l : Location) (x : SystemLocation) → IsNamed p t l → LocationNumber p s l x → Touches p s t write l → system.TouchedIn s write t.method x
  touches_there t write l x named number h = (t, h.0, refl, h.1, spot_there t h.0 l x named number h.2)

module _ (p : Program) (s : System) (coded : IsProgramOfCode p) (tie : IsSystemOf p s) where
  -- a touched statement is one that is no call
  touched_back : (write : Bool) (m : MethodId) (l : Location) (x : SystemLocation) → SystemHolds s (Reached m) → LocationNumber p s l x → system.TouchedIn s write m x
      → (t : Statement) × (t.method ≡ m) × IsStatement p t × (HasOpcode p t IsCall → ⊥) × Touches p s t write l
  touched_back write m l x reached number (t, k, e, c, at) =
      let op = tie.touched (record { place = t; write = write; spot = k }) c in (
        t,
        e,
        (reached_back p s coded tie t.method (subst (λ n. SystemHolds s (Reached n)) (sym e) reached), (op.0, op.1, op.2, tt)),
        (λ call. let o = one_opcode p coded t _ _ call op in o.2 o.1),
        (k, c, spot_back p s k l x number at),
      )

  pub defines_back : (m : MethodId) (l : Location) (x : SystemLocation) → SystemHolds s (Reached m) → LocationNumber p s l x → system.TouchedIn s true m x
      → (t : Statement) × (t.method ≡ m) × Defines p t l
  defines_back m l x reached number h = let b = touched_back true m l x reached number h in (b.0, b.1, (tie.writes b.0 l b.2 b.3).1 b.4)

  pub uses_back : (m : MethodId) (l : Location) (x : SystemLocation) → SystemHolds s (Reached m) → LocationNumber p s l x → system.TouchedIn s false m x
      → (t : Statement) × (t.method ≡ m) × Uses p t l
  uses_back m l x reached number h = let b = touched_back false m l x reached number h in (b.0, b.1, (tie.reads b.0 l b.2 b.3).1 b.4)

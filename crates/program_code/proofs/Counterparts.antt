-- What a program traces has a number, and the cells that a system of it traces are cells of the program.
use Rattle.std.proofs.Common.{◌≡◌, ◌<◌, ◌+◌, ◌-◌, ℕ, Bool, false, List, length, Contains, Some, inl, inr, refl, sym, subst, arith}
use Rattle.std.proofs.Math.Logic.{∥∥₁_elim}
use Rattle.std.proofs.Props.{props}
use Rattle.std.proofs.lemmas.Bool.{cases_lt, cases_eq}
use Rattle.std.proofs.lemmas.List.Elements.{All-contains}
use Rattle.slicer_ids.specs.declared.ids.MethodId.{MethodId}
use Rattle.slicer_ids.specs.declared.ids.SiteId.{SiteId}
use Rattle.slicer_ids.specs.declared.ids.FieldId.{FieldId}
use Rattle.slicer_ids.specs.declared.ids.CallId.{CallId}
use Rattle.slicer_ids.specs.declared.ids.Statement.{Statement}
use Rattle.dep_form.specs.declared.rules.Var.{Var}
use Rattle.dep_form.specs.declared.rules.Touch.{Touch}
use Rattle.dep_form.specs.declared.rules.Spot.{Spot}
use Rattle.dep_form.specs.declared.rules.Spot.TheVariants as spot
use Rattle.dep_form.specs.declared.rules.OutsideRule.{OutsideRule}
use Rattle.dep_form.specs.declared.call_site.CallSite.{CallSite}
use Rattle.dep_form.specs.declared.system.System.{System}
use Rattle.dep_form.specs.declared.effects.Location.{Location as SystemLocation}
use Rattle.dep_form.specs.declared.effects.Location.TheVariants.{Cell, Static}
use Rattle.dep_form.specs.Within.{IsWithinSpot}
use Rattle.dep_form.specs.PointsTo.{Has, OutsideAt, OneMayBe}
use Rattle.dep_form.specs.Constraints.{SystemHolds, ArgumentHas, IsState as IsSystemState, elements_field, state_field}
use Rattle.dep_form.specs.Effects as system
use Rattle.dep_form.proofs.WithinSystem.{counts_of}
use Rattle.program_form.specs.Programs.{Program}
use Rattle.program_form.specs.Sites.{Site}
use Rattle.program_form.specs.Facts.{FieldName, Named, Elements, Length, State, Holds, IsState}
use Rattle.program_form.specs.Effects.{Location, CellOf, StaticOf, OperandMayBe, CopiesOutside, UsesAtAll, IsTraced}
use Rattle.program_form.specs.Systems.{SiteNumber, FieldNumber, IsSpot, IsSystemOf}
use Rattle.program_form.specs.Systems as tied
use Rattle.program_code.specs.Codes.{IsProgramOfCode}
use Rattle.program_code.specs.Locations.{LocationNumber, cell_number, static_number, AreStaticsNamed}
use Rattle.program_code.proofs.Outside.{outside_number, outside_site, has_number}
use Rattle.program_code.proofs.Touching.{used_by}

-- FIELDS

state_number : (p : Program) (s : System) (b : Site) (f : FieldName) → IsState p b f → (g : FieldId) × FieldNumber s f g
state_number p s b f (inl e) = (elements_field s, subst (λ z. FieldNumber s z (elements_field s)) (sym e.1) refl)
state_number p s b f (inr e) = (state_field s, subst (λ z. FieldNumber s z (state_field s)) (sym e.2) refl)

field_id : (g : FieldId) (n : ℕ) → g.0 ≡ n → g ≡ record { 0 = n }
field_id g n e = by_number g.0 n e
  where
    by_number : (a b : ℕ) → a ≡ b → (let x : FieldId = record { 0 = a } in x) ≡ record { 0 = b }
    by_number a b e = rw e refl

-- a number below that of the fields is that of a field
field_named : (s : System) (g : FieldId) → g.0 < s.fields → (f : FieldName) × FieldNumber s f g
field_named s g lt = elim (cases_lt (g.0 + 3) s.fields) [
  | inl own ↦ (Named g, (refl, own))
  | inr last ↦ elim (cases_eq g.0 (s.fields - 3)) [
    | inl e ↦ (Elements, field_id g (s.fields - 3) e)
    | inr no_elements ↦ elim (cases_eq g.0 (s.fields - 2)) [
      | inl e ↦ (Length, field_id g (s.fields - 2) e)
      | inr no_length ↦ (State, field_id g (s.fields - 1) (omega (arith, lt, last, no_elements, no_length)))
    ]
  ]
]

-- FROM THE PROGRAM

spot_number : (p : Program) (s : System) (k : Spot) (l : Location) → IsSpot p s k l → (x : SystemLocation) × LocationNumber p s l x
spot_number p s k l (tied.field c holds site field) = (_, cell_number site field)
spot_number p s k l (tied.made site field) = (_, cell_number site field)
spot_number p s k l (tied.static number) = (_, static_number number)

module _ (p : Program) (s : System) (coded : IsProgramOfCode p) (tie : IsSystemOf p s) where
  argument_number : (t : Statement) (instance : Bool) (r : OutsideRule) (js : List ℕ) (b : Site) → OneMayBe (Holds p) t instance r (OperandMayBe p t) (IsState p) js b → (n : SiteId) × SiteNumber p n b
  argument_number t instance r js b (i, c, inl h) = let g = tie.numbered (OutsideAt t (Some b)) h.1 in outside_number p s t b g.0 g.1
  argument_number t instance r js b (i, c, inr h) = let o = h.2 in let g = tie.numbered (Has _ b) o.2 in has_number p s _ b g.0 g.1

  cell_of : (t : Statement) (instance : Bool) (r : OutsideRule) (js : List ℕ) (b : Site) (f : FieldName) → OneMayBe (Holds p) t instance r (OperandMayBe p t) (IsState p) js b → IsState p b f
      → (x : SystemLocation) × LocationNumber p s (CellOf b f) x
  cell_of t instance r js b f h state = let n = argument_number t instance r js b h in let g = state_number p s b f state in (Cell n.0 g.0, cell_number n.1 g.1)

  used_number : (t : Statement) (l : Location) → UsesAtAll p t l → (x : SystemLocation) × LocationNumber p s l x
  used_number t l (inl d) = elim (used_by p s coded tie t l d) [
    | inl plain ↦ let touch = (tie.reads t l plain.0 plain.1).0 d in spot_number p s touch.0 l touch.2
    | inr w ↦ subst (λ z. (x : SystemLocation) × LocationNumber p s z x) (sym w.2) (by_copies w.0 w.1 w.4)
  ]
    where
      by_copies : (b : Site) (f : FieldName) → CopiesOutside p t b f → (x : SystemLocation) × LocationNumber p s (CellOf b f) x
      by_copies b f (instance, r, rule, may, state) = cell_of t instance r r.written b f may state
  used_number t l (inr (b, f, st, (instance, r, rule, (may, state)), e)) = subst (λ z. (x : SystemLocation) × LocationNumber p s z x) (sym e) (cell_of t instance r r.reads b f may state)

  pub traced_number : (l : Location) → IsTraced p l → (x : SystemLocation) × LocationNumber p s l x
  traced_number l h = used_number h.1.0 l h.1.1

-- FROM THE SYSTEM

abbrev IsWithinTouch : System → Touch → Type 0
IsWithinTouch s touch = (touch.place.method.0 < length s.methods) × IsWithinSpot (counts_of s) touch.spot

field_within : (s : System) (t : Statement) (write : Bool) (vs : List Var) (g : FieldId) → Contains s.touches (record { place = t; write = write; spot = spot.Field vs g }) → g.0 < s.fields
field_within s t write vs g c = ∥∥₁_elim s.within (hlevel props) (λ w. (All-contains (IsWithinTouch s) s.touches (record { place = t; write = write; spot = spot.Field vs g }) w.4 c).1.1)

made_field_within : (s : System) (t : Statement) (write : Bool) (n : SiteId) (g : FieldId) → Contains s.touches (record { place = t; write = write; spot = spot.Made n g }) → g.0 < s.fields
made_field_within s t write n g c = ∥∥₁_elim s.within (hlevel props) (λ w. (All-contains (IsWithinTouch s) s.touches (record { place = t; write = write; spot = spot.Made n g }) w.4 c).1.1)

made_site_within : (s : System) (t : Statement) (write : Bool) (n : SiteId) (g : FieldId) → Contains s.touches (record { place = t; write = write; spot = spot.Made n g }) → n.0 < length s.sites
made_site_within s t write n g c = ∥∥₁_elim s.within (hlevel props) (λ w. (All-contains (IsWithinTouch s) s.touches (record { place = t; write = write; spot = spot.Made n g }) w.4 c).1.0)

state_field_named : (s : System) (n : SiteId) (g : FieldId) → IsSystemState s n g → (f : FieldName) × FieldNumber s f g
state_field_named s n g (inl e) = (Elements, e.3)
state_field_named s n g (inr e) = (State, e.3)

module _ (p : Program) (s : System) (coded : IsProgramOfCode p) (tie : IsSystemOf p s) where
  argument_named : (c : CallId) (k : CallSite) (r : OutsideRule) (js : List ℕ) (n : SiteId) → OneMayBe (SystemHolds s) c k.instance r (ArgumentHas s (SystemHolds s) k) (IsSystemState s) js n
      → (b : Site) × SiteNumber p n b
  argument_named c k r js n (i, at, inl h) = let f = tie.outside_named c (Some n) h.1 in outside_site p s f.0 c n f.1
  argument_named c k r js n (i, at, inr h) = let a = h.2 in tie.sites_named a.0 n a.2

  cell_named : (n : SiteId) (g : FieldId) → (b : Site) × SiteNumber p n b → (f : FieldName) × FieldNumber s f g → (l : Location) × LocationNumber p s l (Cell n g)
  cell_named n g b f = (CellOf b.0 f.0, cell_number b.1 f.1)

  touched_named : (t : Statement) (write : Bool) (k : Spot) (n : SiteId) (g : FieldId) → Contains s.touches (record { place = t; write = write; spot = k }) → system.IsSpotAt s k (Cell n g)
      → (l : Location) × LocationNumber p s l (Cell n g)
  touched_named t write k n g c (system.field {vs = vs} {v = v} at holds) = cell_named n g (tie.sites_named v n holds) (field_named s g (field_within s t write vs g c))
  touched_named t write k n g c system.made = cell_named n g ((tie.sites n).0 (made_site_within s t write n g c)) (field_named s g (made_field_within s t write n g c))

  call_named : (c : CallId) (k : CallSite) (r : OutsideRule) (n : SiteId) (g : FieldId) → system.CallUses s c k r (Cell n g) → (l : Location) × LocationNumber p s l (Cell n g)
  call_named c k r n g (system.read w) = cell_named n g (argument_named c k r r.reads n w.0) (state_field_named s n g w.1)
  call_named c k r n g (system.copied may state) = cell_named n g (argument_named c k r r.written n may) (state_field_named s n g state)

  used_named : (m : MethodId) (n : SiteId) (g : FieldId) → system.UsedIn s m (Cell n g) → (l : Location) × LocationNumber p s l (Cell n g)
  used_named m n g (reached, inl (t, k, e, c, at)) = touched_named t false k n g c at
  used_named m n g (reached, inr (c, k, r, is, d)) = call_named c k r n g d

  pub traced_named : (n : SiteId) (g : FieldId) → system.IsTraced s (Cell n g) → (l : Location) × LocationNumber p s l (Cell n g)
  traced_named n g h = used_named h.1.0 n g h.1.1

-- STATIC VARIABLES

module _ (p : Program) (s : System) (named : AreStaticsNamed p s) where
  static_touched : (t : Statement) (write : Bool) (k : Spot) (x : Var) → Contains s.touches (record { place = t; write = write; spot = k }) → system.IsSpotAt s k (Static x)
      → (l : Location) × LocationNumber p s l (Static x)
  static_touched t write k x c system.static = let v = named (record { place = t; write = write; spot = k }) x c refl in (StaticOf v.0, static_number v.1)

  static_used : (m : MethodId) (x : Var) → system.UsedIn s m (Static x) → (l : Location) × LocationNumber p s l (Static x)
  static_used m x (reached, inl (t, k, e, c, at)) = static_touched t false k x c at
  static_used m x (reached, inr (c, k, r, is, d)) = elim d [ ]

  pub static_named : (x : Var) → system.IsTraced s (Static x) → (l : Location) × LocationNumber p s l (Static x)
  static_named x h = static_used h.1.0 x h.1.1

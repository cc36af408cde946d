-- Sites and locations by number are as many as those of the program.
use Rattle.std.proofs.Common.{◌≡◌, ◌≢◌, ◌⊎◌, ◌≤◌, ◌<◌, ◌^◌, ℕ, Bool, List, [], Contains, Option, Some, length, inl, inr, refl, sym, ap, subst, ◌∙◌, arith}
use Rattle.std.specs.Prelude.{slice_get}
use Rattle.std.proofs.lemmas.List.Elements.{All-contains}
use Rattle.std.proofs.lemmas.Option.{same_Some}
use Rattle.slicer_ids.specs.Sets.{IsListOf, IsOrderedListOf}
use Rattle.slicer_ids.specs.declared.ids.Statement.{Statement}
use Rattle.slicer_ids.specs.declared.ids.SiteId.{SiteId}
use Rattle.slicer_ids.specs.declared.ids.FieldId.{FieldId}
use Rattle.class_form.proofs.Indices.{index_in, there_at}
use Rattle.dep_form.specs.declared.rules.Var.{Var}
use Rattle.dep_form.specs.declared.rules.Touch.{Touch}
use Rattle.dep_form.specs.declared.rules.Spot.TheVariants.{Static as StaticSpot}
use Rattle.dep_form.specs.declared.system.System.{System}
use Rattle.dep_form.specs.declared.effects.ModRef.{ModRef}
use Rattle.dep_form.specs.declared.effects.Location.{Location as SystemLocation}
use Rattle.dep_form.specs.declared.effects.Location.TheVariants.{Cell, Static}
use Rattle.dep_form.specs.Effects.{IsModRefOf, LocationBefore, IsTraced as IsTracedBySystem}
use Rattle.dep_form.specs.Summaries.{HasSize}
use Rattle.program_form.specs.Programs.{Program}
use Rattle.program_form.specs.Facts.{Variable, FieldName, Named as NamedField, Elements, Length, State, IsStaticVariable}
use Rattle.program_form.specs.Sites.{Site, SiteBefore}
use Rattle.program_form.specs.Effects.{Location, CellOf, StaticOf, IsTraced}
use Rattle.program_form.specs.Systems.{IsSystemOf, FieldNumber, VariableNumber}
use Rattle.constraint_form.specs.Variables.{Meaning, Named, AreVariables}
use Rattle.constraint_form.specs.ConstraintSystems.{IsConstraintSystem}
use Rattle.constraint_form.proofs.OnePlace.{one_place}
use Rattle.constraint_form.proofs.SiteNumbers.{one_site, one_site_number}
use Rattle.program_code.specs.Codes.{IsProgramOfCode}
use Rattle.program_code.specs.Locations.{LocationNumber, cell_number, static_number, AreStaticsNamed}
use Rattle.program_code.proofs.Numbers.{one_field_number, elements_named, length_named, state_named}
use Rattle.program_code.proofs.Counterparts.{traced_number, traced_named, static_named}
use Rattle.program_code.proofs.ModRef.{mod_there, mod_back}
use Rattle.fact_form.proofs.ItemLists.{IsMadeFrom, make, back, apart, all_of}
use Rattle.acceptance.specs.Programs.{IsSite, AreAtMost, AreTooMany, AreFew}
use Rattle.analysis.proofs.Listing.{size_of, no_site_before_itself, no_location_before_itself}

-- SITES

pub sites_few : (p : Program) (s : System) → IsConstraintSystem p s → length s.methods ≤ 2 ^ 16 → length s.sites ≤ 2 ^ 20 → AreFew p
sites_few p s (names, tables) methods sites =
    let (hs, listed, size) = tables.sites.listed in
    record {
      methods = subst (λ n. n ≤ 2 ^ 16) tables.methods methods;
      sites = (length hs, size_of SiteBefore (IsSite p) hs no_site_before_itself listed, subst (λ n. n ≤ 2 ^ 20) size sites);
    }

pub sites_many : (p : Program) (n : ℕ) (hs : List Site) → IsOrderedListOf SiteBefore hs (IsSite p) → n ≡ length hs → 2 ^ 20 < n → AreTooMany (IsSite p) (2 ^ 20) n
sites_many p n hs listed size many = (subst (HasSize (IsSite p)) (sym size) (size_of SiteBefore (IsSite p) hs no_site_before_itself listed), many)

-- ONE LOCATION FOR A NUMBER, AND ONE NUMBER FOR A LOCATION

module _ (p : Program) (s : System) (names : List Meaning) (variables : AreVariables p s names) where
  one_variable : (v w : Variable) (x : Var) → VariableNumber p s v x → VariableNumber p s w x → v ≡ w
  one_variable v w x a b = let e : Named v ≡ Named w = same_Some (Named v) (Named w) (sym (variables.numbers v x a) ∙ variables.numbers w x b) in cc

  one_var : (v : Variable) (x y : Var) → VariableNumber p s v x → VariableNumber p s v y → x ≡ y
  one_var v x y a b = ap (λ k. record { 0 = k }) (one_place (λ (a b : Meaning). a ≢ b) names variables.once (λ a n. n refl) x.0 y.0 (Named v) (variables.numbers v x a) (variables.numbers v y b))

  one_field : (f h : FieldName) (n : FieldId) → FieldNumber s f n → FieldNumber s h n → f ≡ h
  one_field (NamedField f) (NamedField h) n x y = ap (λ k. NamedField k) (sym x.0 ∙ y.0)
  one_field f Elements n x y = elements_named s f (subst (λ (k : FieldId). FieldNumber s f k) y x)
  one_field f Length n x y = length_named s f (subst (λ (k : FieldId). FieldNumber s f k) y x)
  one_field f State n x y = state_named s f (subst (λ (k : FieldId). FieldNumber s f k) y x)
  one_field Elements h n x y = sym (elements_named s h (subst (λ (k : FieldId). FieldNumber s h k) x y))
  one_field Length h n x y = sym (length_named s h (subst (λ (k : FieldId). FieldNumber s h k) x y))
  one_field State h n x y = sym (state_named s h (subst (λ (k : FieldId). FieldNumber s h k) x y))

  one_location : (l m : Location) (x : SystemLocation) → LocationNumber p s l x → LocationNumber p s m x → l ≡ m
  one_location l m x (cell_number {b} {f} {n} {g = i} site field) (cell_number {b = c} {f = h} other_site other_field) =
      ap (λ z. CellOf z f) (one_site p n b c site other_site) ∙ ap (λ z. CellOf c z) (one_field f h i field other_field)
  one_location l m x (static_number {v} {x = y} number) (static_number {v = w} other) = ap (λ z. StaticOf z) (one_variable v w y number other)

  one_number : (l : Location) (x y : SystemLocation) → LocationNumber p s l x → LocationNumber p s l y → x ≡ y
  one_number l x y (cell_number {b} {f} {n} {g = i} site field) (cell_number {n = m} {g = j} other_site other_field) =
      ap (λ z. Cell z i) (one_site_number p n m b site other_site) ∙ ap (λ z. Cell m z) (one_field_number s f i j field other_field)
  one_number l x y (static_number {v} {x = a} number) (static_number {x = b} other) = ap (λ z. Static z) (one_var v a b number other)

-- LOCATIONS

-- what a law of constraint_form says
abbrev pub AreSpotsNamed : Type 0
AreSpotsNamed = (p : Program) (s : System) (t : Statement) (write : Bool) (x : Var) → IsConstraintSystem p s → Contains s.touches (record { place = t; write = write; spot = StaticSpot x })
    → (v : Variable) × VariableNumber p s v x × IsStaticVariable p t v

statics_of : AreSpotsNamed → (p : Program) (s : System) → IsConstraintSystem p s → AreStaticsNamed p s
statics_of spots p s made t x among e =
    let here : Contains s.touches (record { place = t.place; write = t.write; spot = StaticSpot x }) = subst (λ z. Contains s.touches (record { place = t.place; write = t.write; spot = z })) e among in
    let v = spots p s t.place t.write x made here in
    (v.0, v.1)

module _ (spots : AreSpotsNamed) (p : Program) (s : System) (coded : IsProgramOfCode p) (tie : IsSystemOf p s) (made : IsConstraintSystem p s) where
  named : (x : SystemLocation) → IsTracedBySystem s x → (l : Location) × LocationNumber p s l x
  named (Cell n i) traced = traced_named p s coded tie n i traced
  named (Static v) traced = static_named p s (statics_of spots p s made) v traced

  there : (l : Location) (x : SystemLocation) → LocationNumber p s l x → IsTraced p l → IsTracedBySystem s x
  there l x number h = (mod_there p s coded tie l x number h.0.0.method (h, h.0.0, ([], refl), h.0.1)).0

  back_to : (l : Location) (x : SystemLocation) → LocationNumber p s l x → IsTracedBySystem s x → IsTraced p l
  back_to l x number h = (mod_back p s coded tie l x number h.0.0 (h, h.0.0, ([], refl), h.0.1)).0

  abbrev IsNumberOf : SystemLocation → Location → Type 0
  IsNumberOf x l = LocationNumber p s l x

  module _ (xs : List SystemLocation) (listed : IsListOf xs (IsTracedBySystem s)) (ls : List Location) (from : IsMadeFrom IsNumberOf xs ls) where
    location_traced : (k : ℕ) (l : Location) → slice_get ls k ≡ Some l → IsTraced p l
    location_traced k l e =
        let x = back IsNumberOf xs ls from k l e in
        back_to l x.0 x.2 (All-contains (IsTracedBySystem s) xs x.0 listed.each (there_at xs k x.0 x.1))

    one_index : (i j : ℕ) (l : Location) → slice_get ls i ≡ Some l → slice_get ls j ≡ Some l → i ≡ j
    one_index i j l e h =
        let x = back IsNumberOf xs ls from i l e in
        let y = back IsNumberOf xs ls from j l h in
        one_place (λ (a b : SystemLocation). a ≢ b) xs listed.once (λ a n. n refl) i j x.0 x.1
        (subst (λ z. slice_get xs j ≡ Some z) (one_number p s made.0 made.1.variables l y.0 x.0 y.2 x.2) y.1)

    location_there : (l : Location) → IsTraced p l → Contains ls l
    location_there l traced =
        let x = traced_number p s coded tie l traced in
        let i = index_in xs x.0 (listed.whole x.0 (there l x.0 x.1 traced)) in
        let m = from.there i.0 x.0 i.1 in
        there_at ls i.0 l (subst (λ z. slice_get ls i.0 ≡ Some z) (one_location p s made.0 made.1.variables m.0 l x.0 m.2 x.1) m.1)

    locations_listed : IsListOf ls (IsTraced p)
    locations_listed = record { each = all_of (IsTraced p) ls location_traced; once = apart ls one_index; whole = location_there }

  pub traced_size : (n : ℕ) → HasSize (IsTracedBySystem s) n → HasSize (IsTraced p) n
  traced_size n (xs, listed, size) =
      let ls = make IsNumberOf xs (λ x c. named x (All-contains (IsTracedBySystem s) xs x listed.each c)) in
      (ls.0, locations_listed xs listed ls.0 ls.1, size ∙ ls.1.size)

  pub locations_few : (mr : ModRef) → IsModRefOf s mr → length mr.locations ≤ 2 ^ 20 → AreAtMost (IsTraced p) (2 ^ 20)
  locations_few mr described few =
      (length mr.locations, traced_size (length mr.locations) (size_of LocationBefore (IsTracedBySystem s) mr.locations no_location_before_itself described.locations), few)

  pub locations_many : (n : ℕ) → 2 ^ 20 < n → HasSize (IsTracedBySystem s) n → AreTooMany (IsTraced p) (2 ^ 20) n
  locations_many n many size = (traced_size n size, many)

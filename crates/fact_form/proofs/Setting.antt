-- What the facts of a program are read from, and how its locations and calls are numbered.
use Rattle.std.proofs.Common.{◌≡◌, ◌≢◌, ◌++◌, List, [], Contains, Option, Some, None, inl, inr, refl, sym, ap, subst, ◌∙◌, arith}
use Rattle.std.specs.Prelude.{slice_get, map, option_map}
use Rattle.std.proofs.lemmas.Option.{same_Some, slice_get-map}
use Rattle.std.proofs.lemmas.List.Elements.{All-contains}
use Rattle.slicer_ids.specs.declared.ids.MethodId.{MethodId}
use Rattle.slicer_ids.specs.declared.ids.FieldId.{FieldId}
use Rattle.slicer_ids.specs.declared.ids.LocId.{LocId}
use Rattle.slicer_ids.specs.declared.ids.Statement.{Statement}
use Rattle.class_form.proofs.Indices.{index_in, there_at}
use Rattle.dep_form.specs.declared.rules.Var.{Var}
use Rattle.dep_form.specs.declared.call_site.CallSite.{CallSite}
use Rattle.dep_form.specs.declared.system.System.{System}
use Rattle.dep_form.specs.declared.effects.Location.{Location as SystemLocation}
use Rattle.dep_form.specs.declared.effects.Location.TheVariants.{Cell, Static}
use Rattle.dep_form.specs.declared.effects.ModRef.{ModRef}
use Rattle.dep_form.specs.Effects.{IsModRefOf, LocationBefore, IsTraced as IsTracedBySystem}
use Rattle.program_form.specs.Programs.{Program}
use Rattle.program_form.specs.Facts.{Variable, FieldName, Named as NamedField, Elements, Length, State}
use Rattle.program_form.specs.Effects.{Location, CellOf, StaticOf, IsTraced}
use Rattle.program_form.specs.Dependences.{Caller, AtStatement, FromRoot}
use Rattle.program_form.specs.Graphs.{Numbering}
use Rattle.program_form.specs.Systems.{IsSystemOf, FieldNumber, VariableNumber}
use Rattle.constraint_form.specs.Asked.{IsReadProgram}
use Rattle.constraint_form.specs.Variables.{Meaning, Named, AreVariables}
use Rattle.constraint_form.specs.ConstraintSystems.{AreTables}
use Rattle.constraint_form.proofs.OnePlace.{one_place}
use Rattle.constraint_form.proofs.SiteNumbers.{one_site, one_site_number}
use Rattle.program_code.specs.Codes.{IsProgramOfCode}
use Rattle.program_code.specs.Locations.{LocationNumber, cell_number, static_number, AreStaticsNamed}
use Rattle.program_code.proofs.Numbers.{one_field_number, elements_named, length_named, state_named}
use Rattle.program_code.proofs.Counterparts.{traced_number, traced_named, static_named}
use Rattle.program_code.proofs.ModRef.{mod_there, mod_back}
use Rattle.fact_form.specs.EntryCalls.{AreEntryCalls}
use Rattle.fact_form.proofs.ItemLists.{IsMadeFrom, make, back}

pub record Setting (p : Program) (s : System) (mr : ModRef) (entries : List MethodId) : Type 0 where
  pub asked : IsReadProgram p
  pub coded : IsProgramOfCode p
  pub names : List Meaning
  pub tables : AreTables p s names
  pub tie : IsSystemOf p s
  pub statics : AreStaticsNamed p s
  pub effects : IsModRefOf s mr
  pub entered : AreEntryCalls p s entries

-- the caller is the statement of the call
abbrev pub IsAtCall : CallSite → Caller → Type 0
IsAtCall k c = (t : Statement) × (k.place ≡ Some t) × (c ≡ AtStatement t)

abbrev pub IsLocationOf : Program → System → SystemLocation → Location → Type 0
IsLocationOf p s x l = LocationNumber p s l x

pub record IsNumberingOf (p : Program) (s : System) (mr : ModRef) (entries : List MethodId) (ns : Numbering) : Type 0 where
  pub locations : IsMadeFrom (IsLocationOf p s) mr.locations ns.locations
  pub statements : List Caller
  pub calls : IsMadeFrom IsAtCall s.calls statements
  pub all : ns.calls ≡ statements ++ map (λ (m : MethodId). FromRoot m) entries

module _ (p : Program) (s : System) (mr : ModRef) (entries : List MethodId) (g : Setting p s mr entries) where
  -- ONE LOCATION FOR A NUMBER, AND ONE NUMBER FOR A LOCATION

  variables : AreVariables p s g.names
  variables = g.tables.variables

  pub one_variable : (v w : Variable) (x : Var) → VariableNumber p s v x → VariableNumber p s w x → v ≡ w
  one_variable v w x a b = let e : Named v ≡ Named w = same_Some (Named v) (Named w) (sym (variables.numbers v x a) ∙ variables.numbers w x b) in cc

  one_var : (v : Variable) (x y : Var) → VariableNumber p s v x → VariableNumber p s v y → x ≡ y
  one_var v x y a b = ap (λ k. record { 0 = k }) (one_place (λ (a b : Meaning). a ≢ b) g.names variables.once (λ a n. n refl) x.0 y.0 (Named v) (variables.numbers v x a) (variables.numbers v y b))

  one_field : (f h : FieldName) (n : FieldId) → FieldNumber s f n → FieldNumber s h n → f ≡ h
  one_field (NamedField f) (NamedField h) n x y = ap (λ k. NamedField k) (sym x.0 ∙ y.0)
  one_field f Elements n x y = elements_named s f (subst (λ (k : FieldId). FieldNumber s f k) y x)
  one_field f Length n x y = length_named s f (subst (λ (k : FieldId). FieldNumber s f k) y x)
  one_field f State n x y = state_named s f (subst (λ (k : FieldId). FieldNumber s f k) y x)
  one_field Elements h n x y = sym (elements_named s h (subst (λ (k : FieldId). FieldNumber s h k) x y))
  one_field Length h n x y = sym (length_named s h (subst (λ (k : FieldId). FieldNumber s h k) x y))
  one_field State h n x y = sym (state_named s h (subst (λ (k : FieldId). FieldNumber s h k) x y))

  one_location : (l m : Location) (x : SystemLocation) → LocationNumber p s l x → LocationNumber p s m x → l ≡ m
  one_location l m x (cell_number {b} {f} {n} {g = i} site field) (cell_number {b = c} {f = h} other_site other_field) =
      ap (λ z. CellOf z f) (one_site p n b c site other_site) ∙ ap (λ z. CellOf c z) (one_field f h i field other_field)
  one_location l m x (static_number {v} {x = y} number) (static_number {v = w} other) = ap (λ z. StaticOf z) (one_variable v w y number other)

  one_number : (l : Location) (x y : SystemLocation) → LocationNumber p s l x → LocationNumber p s l y → x ≡ y
  one_number l x y (cell_number {b} {f} {n} {g = i} site field) (cell_number {n = m} {g = j} other_site other_field) =
      ap (λ z. Cell z i) (one_site_number p n m b site other_site) ∙ ap (λ z. Cell m z) (one_field_number s f i j field other_field)
  one_number l x y (static_number {v} {x = a} number) (static_number {x = b} other) = ap (λ z. Static z) (one_var v a b number other)

  -- THE NUMBERING

  named : (x : SystemLocation) → Contains mr.locations x → (l : Location) × LocationNumber p s l x
  named x c = by_kind x (All-contains (IsTracedBySystem s) mr.locations x g.effects.locations.each c)
    where
      by_kind : (x : SystemLocation) → IsTracedBySystem s x → (l : Location) × LocationNumber p s l x
      by_kind (Cell n i) t = traced_named p s g.coded g.tie n i t
      by_kind (Static v) t = static_named p s g.statics v t

  placed : (k : CallSite) → Contains s.calls k → (c : Caller) × IsAtCall k c
  placed k c =
      let i = index_in s.calls k c in
      let ts = g.tables.calls.listed.0 in
      let place : slice_get (map (λ (k : CallSite). k.place) s.calls) i.0 ≡ Some k.place = slice_get-map (λ (k : CallSite). k.place) s.calls i.0 ∙ ap (λ o. option_map (λ (k : CallSite). k.place) o) i.1 in
      let there : slice_get (map (λ (t : Statement). Some t) ts) i.0 ≡ Some k.place = subst (λ xs. slice_get xs i.0 ≡ Some k.place) g.tables.calls.listed.2 place in
      let t = some_place k.place (slice_get ts i.0) (sym (slice_get-map (λ (t : Statement). Some t) ts i.0) ∙ there) in
      (AtStatement t.0, (t.0, t.1, refl))
    where
      some_place : (q : Option Statement) (o : Option Statement) → option_map (λ (t : Statement). Some t) o ≡ Some q → (t : Statement) × (q ≡ Some t)
      some_place q None e = absurd cc
      some_place q (Some t) e = (t, sym (same_Some (Some t) q e))

  pub numbering : (ns : Numbering) × IsNumberingOf p s mr entries ns
  numbering =
      let ls = make (IsLocationOf p s) mr.locations named in
      let cs = make IsAtCall s.calls placed in
      (record { locations = ls.0; calls = cs.0 ++ map (λ (m : MethodId). FromRoot m) entries }, record { locations = ls.1; statements = cs.0; calls = cs.1; all = refl })

  -- LOCATIONS BY NUMBER

  location_irreflexive : (x : SystemLocation) → LocationBefore x x → ⊥
  location_irreflexive (Cell n i) (inl lt) = omega (arith, lt)
  location_irreflexive (Cell n i) (inr w) = omega (arith, w.1)
  location_irreflexive (Static v) lt = omega (arith, lt)

  module _ (ns : Numbering) (numbers : IsNumberingOf p s mr entries ns) where
    -- a location of the list is that of the system's location
    pub of_system : (n : LocId) (l : Location) → slice_get ns.locations n.0 ≡ Some l → (x : SystemLocation) × (slice_get mr.locations n.0 ≡ Some x) × LocationNumber p s l x
    of_system n l e = back (IsLocationOf p s) mr.locations ns.locations numbers.locations n.0 l e

    pub to_program : (n : LocId) (x : SystemLocation) → slice_get mr.locations n.0 ≡ Some x → (l : Location) × (slice_get ns.locations n.0 ≡ Some l) × LocationNumber p s l x
    to_program n x e = numbers.locations.there n.0 x e

    traced_there : (l : Location) (x : SystemLocation) → LocationNumber p s l x → IsTraced p l → IsTracedBySystem s x
    traced_there l x number h = (mod_there p s g.coded g.tie l x number h.0.0.method (h, h.0.0, ([], refl), h.0.1)).0

    -- each traced location has a number
    pub number_of : (l : Location) → IsTraced p l → (n : LocId) × (slice_get ns.locations n.0 ≡ Some l)
    number_of l h =
        let x = traced_number p s g.coded g.tie l h in
        let i = index_in mr.locations x.0 (g.effects.locations.whole x.0 (traced_there l x.0 x.1 h)) in
        let m = to_program (record { 0 = i.0 }) x.0 i.1 in
        (record { 0 = i.0 }, subst (λ z. slice_get ns.locations i.0 ≡ Some z) (one_location m.0 l x.0 m.2 x.1) m.1)

    -- .. and one alone
    pub one_loc : (a b : LocId) (l : Location) → slice_get ns.locations a.0 ≡ Some l → slice_get ns.locations b.0 ≡ Some l → a ≡ b
    one_loc a b l e f =
        let x = of_system a l e in
        let y = of_system b l f in
        let same = one_number l y.0 x.0 y.2 x.2 in
        ap (λ k. record { 0 = k }) (one_place LocationBefore mr.locations g.effects.locations.order location_irreflexive a.0 b.0 x.0 x.1 (subst (λ z. slice_get mr.locations b.0 ≡ Some z) same y.1))

    pub system_location : (n : LocId) (l : Location) (x : SystemLocation) → slice_get ns.locations n.0 ≡ Some l → LocationNumber p s l x → slice_get mr.locations n.0 ≡ Some x
    system_location n l x e number =
        let y = of_system n l e in
        subst (λ z. slice_get mr.locations n.0 ≡ Some z) (one_number l y.0 x y.2 number) y.1

    pub is_number : (n : LocId) (l : Location) (x : SystemLocation) → slice_get ns.locations n.0 ≡ Some l → slice_get mr.locations n.0 ≡ Some x → LocationNumber p s l x
    is_number n l x e f =
        let y = of_system n l e in
        subst (λ z. LocationNumber p s l z) (same_Some y.0 x (sym y.1 ∙ f)) y.2

    pub traced_back : (n : LocId) (l : Location) → slice_get ns.locations n.0 ≡ Some l → IsTraced p l
    traced_back n l e =
        let x = of_system n l e in
        let traced = All-contains (IsTracedBySystem s) mr.locations x.0 g.effects.locations.each (there_at mr.locations n.0 x.0 x.1) in
        (mod_back p s g.coded g.tie l x.0 x.2 traced.0.0 (traced, traced.0.0, ([], refl), traced.0.1)).0

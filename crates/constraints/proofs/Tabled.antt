-- The tables of a program, and a system that has them.
use Rattle.std.proofs.Common.{◌≡◌, ◌<◌, ◌≤◌, ◌+◌, ℕ, Bool, List, [], ◌∷◌, map, length, get_or, Option, Some, Contains, inl, inr, refl, sym, ap, subst, ◌∙◌, arith}
use Rattle.std.specs.Prelude.{◌↔◌, AllPairs, slice_get}
use Rattle.std.proofs.lemmas.List.{length-map, get_or-map}
use Rattle.std.proofs.lemmas.Option.{same_Some}
use Rattle.std.proofs.lemmas.List.Elements.{All-contains, All-weaker}
use Rattle.slicer_ids.specs.Sets.{IsOrderedListOf}
use Rattle.slicer_ids.specs.Order.{StatementBefore}
use Rattle.slicer_ids.specs.declared.ids.ClassId.{ClassId}
use Rattle.slicer_ids.specs.declared.ids.CallId.{CallId}
use Rattle.slicer_ids.specs.declared.ids.MethodId.{MethodId}
use Rattle.slicer_ids.specs.declared.ids.Statement.{Statement}
use Rattle.slicer_ids.proofs.GrowingOrder.{reworded}
use Rattle.slicer_ids.proofs.Ordered.{one_ordered}
use Rattle.worklists.specs.Growth.{FromOne}
use Rattle.class_form.specs.Opcodes.{IsCall}
use Rattle.class_form.specs.declared.body.Body.{Body}
use Rattle.class_form.proofs.Indices.{index_in, index_at, there_at}
use Rattle.dep_form.specs.declared.rules.Entry.{Entry}
use Rattle.dep_form.specs.declared.rules.Var.{Var}
use Rattle.dep_form.specs.declared.rules.Rule.{Rule}
use Rattle.dep_form.specs.declared.rules.Constraint.{Constraint}
use Rattle.dep_form.specs.declared.rules.MethodVars.{MethodVars}
use Rattle.dep_form.specs.declared.rules.OutsideRule.{OutsideRule}
use Rattle.dep_form.specs.declared.rules.SiteInfo.{SiteInfo}
use Rattle.dep_form.specs.declared.rules.Spot.{Spot}
use Rattle.dep_form.specs.declared.rules.Touch.{Touch}
use Rattle.dep_form.specs.declared.call_site.CallSite.{CallSite}
use Rattle.dep_form.specs.declared.system.System.{System}
use Rattle.dep_form.specs.Constraints.{IsMethodVars}
use Rattle.dep_form.specs.Within.{Counts, IsWithinConstraint, IsWithinCall, IsWithinSpot}
use Rattle.program_form.specs.Programs.{Program}
use Rattle.program_form.specs.Statements.{HasOpcode}
use Rattle.program_form.specs.Systems.{ForeignBefore, IsForeignStatic, IsCallOf}
use Rattle.constraint_form.specs.Variables.{Meaning}
use Rattle.constraint_form.specs.Signatures.{IsSignature}
use Rattle.constraint_form.specs.Rules.{IsConstraint}
use Rattle.constraint_form.specs.Touched.{IsTouch}
use Rattle.constraint_form.specs.ConstraintSystems.{AreSites, AreCalls, AreTypes, AreOrdered, IsConstraintSystem}
use Rattle.constraint_form.proofs.Instructions.{in_range}
use Rattle.constraint_form.proofs.SiteNumbers.{statement_asym}
use Rattle.signature_tables.specs.Programs.{IsOfClasses}
use Rattle.signature_tables.specs.Statements.{ProgramNames}
use Rattle.signature_tables.specs.TextPairs.{pair_of}
use Rattle.signature_tables.specs.declared.wanted.Wanted.TheVariants.{Signatures, ForeignStatics}
use Rattle.signature_tables.specs.Pairs.{ClassesBefore}
use Rattle.signature_tables.specs.Selections.{ChoiceBefore}
use Rattle.signature_tables.specs.declared.type_tables.TypeTables.{TypeTables}
use Rattle.variable_tables.specs.Numbers.{keys_of}
use Rattle.variable_tables.specs.Statements.{Rises}
use Rattle.variable_tables.specs.Operands.{AreInOrder}
use Rattle.variable_tables.specs.Tables.{AreTables, AreNames, HasVariables, thrown_by_call, thrown_by_entry}
use Rattle.variable_tables.specs.LookUps.{AreOrdered as AreInTheirOrder}
use Rattle.variable_tables.specs.declared.tables.VariableTables.{VariableTables}
use Rattle.variable_tables.proofs.Behind.{tables_ordered}
use Rattle.variable_tables.proofs.Listing.{map_at, mapped}
use Rattle.variable_tables.proofs.Meanings.{some_names}
use Rattle.variable_tables.proofs.SeenDefs.{ordered_members}
use Rattle.constraint_rules.specs.Settings.{IsSetting, AreInitializers, place_of}
use Rattle.constraint_rules.specs.Statements.{IsRuleOf}
use Rattle.constraint_rules.specs.declared.tables.Tables.{Tables}
use Rattle.constraint_rules.specs.declared.tables.Reachable.{Reachable}
use Rattle.constraints.specs.Bodies.{MethodRises, AreAllPlaces}
use Rattle.constraints.specs.Calls.{IsCallAt, IsKnownCall, Thrown, ThrownBefore, IsThrownAt}
use Rattle.constraints.specs.Touches.{TouchRises}
use Rattle.constraints.specs.Whole.{AreTabled}
use Rattle.constraints.specs.Parts.{ArePartsOf, IsWithinParts, IsMadeOf}
use Rattle.constraints.specs.declared.parts.Parts.{Parts}
use Rattle.constraints.proofs.Bare.{all_within, methods_within, bare_system, bare_has}
use Rattle.constraints.proofs.Bounds.{rule_at, as_many, arguments_of_rule, rule_within, root_below, touch_within, call_within, sites_within, selects_within}
use Rattle.constraints.proofs.OfPlaces.{pairs_back}
use Rattle.constraints.proofs.OfRules.{place_there, rule_stands}

-- ---- lists of things by their keys

pairs_on : {A K : Type 0} (f : A → K) (B : K → K → Type 0) (xs : List A) → AllPairs (λ x y. B (f x) (f y)) xs → AllPairs B (map f xs)
pairs_on f B xs h i j d lt within =
    let short : j < length xs = omega (arith, within, length-map xs f) in
    let x = index_at xs j short in
    subst (λ y. B y (get_or (map f xs) j d)) (sym (get_or-map f xs i x.0 d (omega (arith, lt, short))))
    (subst (λ y. B (f (get_or xs i x.0)) y) (sym (get_or-map f xs j x.0 d short)) (h i j x.0 lt short))

in_map : {A B : Type 0} (f : A → B) (xs : List A) (x : A) → Contains xs x → Contains (map f xs) (f x)
in_map f xs x c = let k = index_in xs x c in there_at (map f xs) k.0 (f x) (mapped f xs k.0 x k.1)

of_map : {A B : Type 0} (f : A → B) (xs : List A) (y : B) → Contains (map f xs) y → (x : A) × Contains xs x × (f x ≡ y)
of_map f xs y c = let k = index_in (map f xs) y c in let (x, at, e) = map_at f xs k.0 y k.1 in (x, there_at xs k.0 x at, e)

map_twice : {A B C : Type 0} (f : A → B) (g : B → C) (xs : List A) → map g (map f xs) ≡ map (λ x. g (f x)) xs
map_twice f g [] = refl
map_twice {A} {B} {C} f g (x ∷ xs) = ap (λ (ys : List C). g (f x) ∷ ys) (map_twice f g xs)

-- ---- what calls throw, in order

thrown_asym : (a b : Thrown) → ThrownBefore a b → ThrownBefore b a → ⊥
thrown_asym a b (s, t, ea, eb, lt) (u, v, fb, fa, gt) =
    let first : v ≡ s = same_Some v s (sym fa ∙ ea) in
    let second : u ≡ t = same_Some u t (sym fb ∙ eb) in
    statement_asym s t lt (subst (λ (z : Statement). StatementBefore z s) second (subst (λ (z : Statement). StatementBefore u z) first gt))

pub exceptions_are : (p : Program) (foreign : ℕ) (t : VariableTables) (places : List Reachable) (ks : List CallSite) → AreTables p foreign t → AreAllPlaces p places
    → IsOrderedListOf ThrownBefore (map thrown_by_call ks) (FromOne (IsThrownAt t.exceptions) places) → map thrown_by_call ks ≡ map thrown_by_entry t.exceptions
exceptions_are p foreign t places ks are all listed =
    let P = FromOne (IsThrownAt t.exceptions) places in
    let es = map thrown_by_entry t.exceptions in
    let calls = are.numbered.2.calls in
    one_ordered ThrownBefore P (map thrown_by_call ks) es (λ a b p q. thrown_asym a b) listed (record {
      each = all_within P es (λ i u at.
          let (e, there, same) = map_at thrown_by_entry t.exceptions i u at in
          let has = there_at t.exceptions i e there in
          let o = All-contains (λ s. HasOpcode p s IsCall) (keys_of t.exceptions) e.0 calls.each (in_map (λ (z : Statement × Var). z.0) t.exceptions e has) in
          let (x, among, place) = place_there places e.0 (all.whole e.0 (o.0, o.1, o.2, tt)) in
          (x, among, thrown x e place has (sym same)));
      order = pairs_on thrown_by_entry ThrownBefore t.exceptions (λ i j d lt within. (
        (get_or t.exceptions i d).0,
        (get_or t.exceptions j d).0,
        refl,
        refl,
        pairs_back (λ (z : Statement × Var). z.0) StatementBefore t.exceptions calls.order i j d lt within,
      ));
      whole = λ u (x, among, (y, has, e)). subst (Contains es) (sym e) (in_map thrown_by_entry t.exceptions (place_of x, y) has);
    })
  where
    thrown : (x : Reachable) (e : Statement × Var) {u : Thrown} → place_of x ≡ e.0 → Contains t.exceptions e → u ≡ thrown_by_entry e → IsThrownAt t.exceptions x u
    thrown x e {u} place has is =
        subst (λ (z : Statement). (y : Var) × Contains t.exceptions (z, y) × (u ≡ (Some z, y))) (sym place) (e.1, has, is)

-- ---- a program with these tables

pub record IsTabled (t : Tables) (p : Program) : Type 0 where
  pub of : IsOfClasses t.h.now p
  pub variables : AreTables p (length t.foreign.now) t.variables.now
  pub sites : AreSites p t.sites.now
  pub signatures : IsOrderedListOf ForeignBefore (map pair_of t.signatures.now) (IsSignature p)
  pub foreign : IsOrderedListOf ForeignBefore (map pair_of t.foreign.now) (IsForeignStatic p)
  pub initializers : AreInitializers p t.initializers.now
  pub fields : t.fields ≡ length p.fields + 3

signatures_are : (p : Program) (nd : List ℕ × List ℕ) → ProgramNames Signatures p nd ↔ IsSignature p nd
signatures_are p nd = (λ (u, (key, o, names_it, a, b)). (u, key, o, names_it, a, b), λ (u, key, o, names_it, a, b). (u, (key, o, names_it, a, b)))

foreign_are : (p : Program) (nd : List ℕ × List ℕ) → ProgramNames ForeignStatics p nd ↔ IsForeignStatic p nd
foreign_are p nd = (λ (u, (key, o, none, names_it, a, b)). (u, key, o, none, names_it, a, b), λ (u, key, o, none, names_it, a, b). (u, (key, o, none, names_it, a, b)))

pub signatures_listed : (p : Program) (nds : List (List ℕ × List ℕ)) → IsOrderedListOf ForeignBefore nds (ProgramNames Signatures p) → IsOrderedListOf ForeignBefore nds (IsSignature p)
signatures_listed p nds listed = reworded ForeignBefore nds (ProgramNames Signatures p) (IsSignature p) (λ nd. (signatures_are p nd).0) (λ nd. (signatures_are p nd).1) listed

pub tabled_of : (t : Tables) (bodies : List Body) → AreTabled t bodies → (p : Program) → IsOfClasses t.h.now p → p.bodies ≡ bodies → IsTabled t p
tabled_of t bodies are p of e = record {
  of = of;
  variables = are.variables p of e;
  sites = are.sites p of e;
  signatures = signatures_listed p (map pair_of t.signatures.now) (are.signatures.listed p of e);
  foreign = reworded ForeignBefore (map pair_of t.foreign.now) (ProgramNames ForeignStatics p) (IsForeignStatic p) (λ nd. (foreign_are p nd).0) (λ nd. (foreign_are p nd).1) (are.foreign.listed p of e);
  initializers = are.initializers p of;
  fields = are.fields p of;
}

module _ (t : Tables) (p : Program) (is : IsTabled t p) where
  abbrev texts : List (List ℕ × List ℕ)
  texts = map pair_of t.foreign.now

  pub tables_are : AreTables p (length texts) t.variables.now
  tables_are = subst (λ n. AreTables p n t.variables.now) (sym (length-map t.foreign.now pair_of)) is.variables

  pub names_are : (names : List Meaning) × AreNames p t.variables.now names
  names_are = some_names p is.of.read texts is.foreign t.variables.now tables_are

  pub setting : (s : System) (names : List Meaning) → AreNames p t.variables.now names → HasVariables s t.variables.now → s.fields ≡ t.fields → IsSetting t p s names
  setting s names named has fields = record {
    of = is.of;
    has = has;
    variables = is.variables;
    named = named;
    sites = is.sites;
    signatures = is.signatures;
    foreign = is.foreign;
    initializers = is.initializers;
    fields = is.fields;
    same_fields = fields;
  }

  pub three : 3 ≤ t.fields
  three = omega (arith, is.fields)

  -- a system that has the variables and nothing else
  abbrev bare : System
  bare = bare_system p is.of.read texts t.variables.now tables_are t.fields three

  pub bare_setting : (names : List Meaning) → AreNames p t.variables.now names → IsSetting t p bare names
  bare_setting names named = setting bare names named (bare_has p is.of.read texts t.variables.now tables_are t.fields three) refl

-- the parts are those of each program with these bodies and entries
abbrev pub PartsFor : Tables → List Body → List Entry → MethodId → Parts → Type 0
PartsFor t bodies entries root parts =
    (p : Program) (s : System) (names : List Meaning) → IsSetting t p s names → p.bodies ≡ bodies → p.entries ≡ entries → root.0 ≡ length p.methods
    → ArePartsOf p s names t.variables.now parts

-- ---- the numbers in the parts are those of something

module _ (t : Tables) (p : Program) (is : IsTabled t p) (entered : (e : Entry) → Contains p.entries e → e.method.0 < length p.methods) (types : TypeTables)
    (typed : AreTypes p types.subclasses types.selects) (parts : Parts)
    (law : (p : Program) (s : System) (names : List Meaning) (m : MethodId) (r : Rule) → IsConstraint p s names m r ↔ IsRuleOf p s names m r)
    (are : (s : System) (names : List Meaning) → IsSetting t p s names → ArePartsOf p s names t.variables.now parts) where
  abbrev start : System
  start = bare t p is

  some : (names : List Meaning) × AreNames p t.variables.now names
  some = names_are t p is

  at_start : IsSetting t p start some.0
  at_start = bare_setting t p is some.0 some.1

  these : ArePartsOf p start some.0 t.variables.now parts
  these = are start some.0 at_start

  abbrev counts : Counts
  counts = record {
    calls = length parts.calls.items;
    methods = length t.variables.now.methods;
    sites = length t.sites.now;
    fields = t.fields;
    vars = t.variables.now.vars;
  }

  same_calls : length parts.calls.items ≡ length start.calls
  same_calls =
      sym (length-map parts.calls.items thrown_by_call) ∙ ap (λ (us : List Thrown). length us) (these.thrown ∙ sym at_start.has.exceptions) ∙ length-map start.calls thrown_by_call

  count : length t.variables.now.methods ≡ length p.methods
  count = is.variables.methods.count

  constraint_within : (c : Constraint) → IsRuleOf p start some.0 c.method c.rule → IsWithinConstraint counts c
  constraint_within c of = (
    method c.method of,
    rule_within t p start some.0 at_start entered counts count refl refl refl same_calls ((law p start some.0 c.method c.rule).1 of),
  )
    where
      method : (m : MethodId) → IsRuleOf p start some.0 m c.rule → m.0 ≤ counts.methods
      method m (inl (root, said)) = root_below t p start some.0 at_start entered counts count refl refl refl same_calls m root
      method m (inr (u, e, said)) =
          let (b, i, at, tt) = rule_stands p start some.0 u c.rule said in
          omega (arith, in_range p is.of.read u (λ op. Unit {0}) (b, i, at, tt), ap (λ (k : MethodId). k.0) e, count)

  pub parts_within : IsWithinParts parts t.variables.now t.sites.now types t.fields
  parts_within = record {
    three = three t p is;
    rules = as_many parts.calls.items parts.rules.items these.rules;
    within = (
      All-weaker (λ (c : Constraint). IsRuleOf p start some.0 c.method c.rule) (IsWithinConstraint counts) constraint_within parts.constraints.items these.constraints.each,
      All-weaker (IsKnownCall p start some.0) (IsWithinCall counts) (λ k known. call_within t p start some.0 at_start entered counts count refl refl refl same_calls k known) parts.calls.items these.calls,
      methods_within p is.of.read (texts t p is) t.variables.now (tables_are t p is) counts refl count,
      sites_within t p start some.0 at_start entered counts count refl refl refl same_calls,
      All-weaker (λ (y : Touch). IsTouch p start some.0 y.place y.write y.spot) (λ (y : Touch). (y.place.method.0 < counts.methods) × IsWithinSpot counts y.spot)
          (λ y touched. touch_within t p start some.0 at_start entered counts count refl refl refl same_calls touched) parts.touches.items these.touches.each,
      selects_within t p start some.0 at_start entered counts count refl refl refl same_calls types.subclasses types.selects typed,
      λ i k r at there. arguments_of_rule k r (rule_at parts.calls.items parts.rules.items these.rules i k r at there),
    );
  }

-- ---- the system with these parts is that of the program

module _ (t : Tables) (p : Program) (is : IsTabled t p) (types : TypeTables) (typed : AreTypes p types.subclasses types.selects) (subclasses : AllPairs ClassesBefore types.subclasses)
    (selects : AllPairs ChoiceBefore types.selects) (parts : Parts)
    (law : (p : Program) (s : System) (names : List Meaning) (m : MethodId) (r : Rule) → IsConstraint p s names m r ↔ IsRuleOf p s names m r)
    (are : (s : System) (names : List Meaning) → IsSetting t p s names → ArePartsOf p s names t.variables.now parts)
    (s : System) (made : IsMadeOf parts t.variables.now t.sites.now types t.fields s) where
  abbrev names : List Meaning
  names = (names_are t p is).0

  -- the calls of the parts are those of the tables, whatever the system
  thrown : map thrown_by_call parts.calls.items ≡ map thrown_by_entry t.variables.now.exceptions
  thrown = (are (bare t p is) names (bare_setting t p is names (names_are t p is).1)).thrown

  has : HasVariables s t.variables.now
  has = record { methods = made.methods; exceptions = ap (λ (ks : List CallSite). map thrown_by_call ks) made.calls ∙ thrown; vars = made.vars }

  set : IsSetting t p s names
  set = setting t p is s names (names_are t p is).1 has made.fields_are

  these_parts : ArePartsOf p s names t.variables.now parts
  these_parts = are s names set

  -- a call of the system
  known_at : (u : Statement) (c : CallId) (k : CallSite) → IsCallOf s u c k → IsCallAt p s names u k
  known_at u c k (at, place) =
      let there : slice_get parts.calls.items c.0 ≡ Some k = subst (λ (ks : List CallSite). slice_get ks c.0 ≡ Some k) made.calls at in
      let (v, call) = All-contains (IsKnownCall p s names) parts.calls.items k these_parts.calls (there_at parts.calls.items c.0 k there) in
      subst (λ (z : Statement). IsCallAt p s names z k) (same_Some v u (sym call.place ∙ place)) call

  places_listed : map (λ (k : CallSite). k.place) s.calls ≡ map (λ (u : Statement). Some u) (keys_of t.variables.now.exceptions)
  places_listed =
      sym (map_twice thrown_by_call (λ (u : Thrown). u.0) s.calls) ∙ ap (λ (us : List Thrown). map (λ (u : Thrown). u.0) us) has.exceptions
      ∙ map_twice thrown_by_entry (λ (u : Thrown). u.0) t.variables.now.exceptions
      ∙ sym (map_twice (λ (e : Statement × Var). e.0) (λ (u : Statement). Some u) t.variables.now.exceptions)

  calls_are : AreCalls p s names
  calls_are = record {
    listed = (keys_of t.variables.now.exceptions, is.variables.numbered.2.calls, places_listed);
    types = λ u c k at. (known_at u c k at).type;
    arguments = λ u c k i x at there. (known_at u c k at).arguments i x there;
    results = λ u c k at. (known_at u c k at).value;
    fresh = λ u c k n at. (known_at u c k at).fresh n;
    refusals = λ u c k n at. (known_at u c k at).refused n;
    rules = λ c k r at there.
        rule_at parts.calls.items parts.rules.items these_parts.rules c.0 k r (subst (λ (ks : List CallSite). slice_get ks c.0 ≡ Some k) made.calls at)
        (subst (λ (rs : List OutsideRule). slice_get rs c.0 ≡ Some r) made.rules there);
  }

  method_at : (m : MethodId) (v : MethodVars) → IsMethodVars s m v → slice_get t.variables.now.methods m.0 ≡ Some v
  method_at m v at = subst (λ (vs : List MethodVars). slice_get vs m.0 ≡ Some v) made.methods at

  in_their_order : AreInTheirOrder t.variables.now
  in_their_order = tables_ordered p (length t.foreign.now) t.variables.now is.variables

  ordered : AreOrdered s
  ordered = record {
    values = λ m v at. pairs_back (λ (e : ℕ × Var). e.0) Rises v.values (order m v at).values;
    caught = λ m v at. pairs_back (λ (e : ℕ × Var). e.0) Rises v.caught (order m v at).caught;
    subclasses = subst (λ (xs : List (ClassId × ClassId)). AllPairs ClassesBefore xs) (sym made.subclasses) subclasses;
    selects = subst (λ (xs : List (ℕ × ClassId × Option MethodId)). AllPairs ChoiceBefore xs) (sym made.selects) selects;
    constraints = subst (λ (cs : List Constraint). AllPairs MethodRises cs) (sym made.constraints) these_parts.constraints.order;
    touches = subst (λ (ys : List Touch). AllPairs TouchRises ys) (sym made.touches) these_parts.touches.order;
  }
    where
      order : (m : MethodId) (v : MethodVars) → IsMethodVars s m v → AreInOrder v
      order m v at = All-contains AreInOrder t.variables.now.methods v in_their_order.methods (there_at t.variables.now.methods m.0 v (method_at m v at))

  constraint_is : (m : MethodId) (r : Rule) → Contains s.constraints (record { method = m; rule = r }) ↔ IsConstraint p s names m r
  constraint_is m r =
      let c : Constraint = record { method = m; rule = r } in
      let exact = ordered_members MethodRises (λ (z : Constraint). IsRuleOf p s names z.method z.rule) parts.constraints.items these_parts.constraints c in (
        λ h. (law p s names m r).1 (exact.0 (subst (λ (cs : List Constraint). Contains cs c) made.constraints h)),
        λ h. subst (λ (cs : List Constraint). Contains cs c) (sym made.constraints) (exact.1 ((law p s names m r).0 h)),
      )

  touch_is : (u : Statement) (w : Bool) (sp : Spot) → Contains s.touches (record { place = u; write = w; spot = sp }) ↔ IsTouch p s names u w sp
  touch_is u w sp =
      let y : Touch = record { place = u; write = w; spot = sp } in
      let exact = ordered_members TouchRises (λ (z : Touch). IsTouch p s names z.place z.write z.spot) parts.touches.items these_parts.touches y in (
        λ h. exact.0 (subst (λ (ys : List Touch). Contains ys y) made.touches h),
        λ h. subst (λ (ys : List Touch). Contains ys y) (sym made.touches) (exact.1 h),
      )

  pub system_is : IsConstraintSystem p s
  system_is = (
    names,
    record {
      methods = ap (λ (vs : List MethodVars). length vs) made.methods ∙ is.variables.methods.count;
      fields = made.fields_are ∙ is.fields;
      natives = λ m v d x name descriptor at of. (is.variables.methods.each m v (method_at m v at)).native d x name descriptor of;
      variables = set.named.variables s has;
      sites = subst (λ (zs : List SiteInfo). AreSites p zs) (sym made.sites_are) is.sites;
      calls = calls_are;
      types = subst (λ (xs : List (ℕ × ClassId × Option MethodId)). AreTypes p s.subclasses xs) (sym made.selects) (subst (λ (xs : List (ClassId × ClassId)). AreTypes p xs types.selects) (sym made.subclasses) typed);
      constraints = constraint_is;
      touches = touch_is;
      order = ordered;
    },
  )

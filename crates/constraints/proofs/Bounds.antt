-- The numbers in the parts of a system are those of something.
use Rattle.std.proofs.Common.{◌≡◌, ◌<◌, ◌≤◌, ℕ, zero, suc, Bool, true, false, List, [], ◌∷◌, length, Option, Some, None, All, Contains, inl, inr, refl, sym, ap, subst, arith}
use Rattle.std.specs.Prelude.{slice_get}
use Rattle.std.proofs.lemmas.Option.{same_Some, slice_get_within}
use Rattle.std.proofs.lemmas.List.Elements.{All-contains, All-weaker, All-cons, All-nil}
use Rattle.slicer_ids.proofs.Ordered.{one_ordered}
use Rattle.slicer_ids.specs.declared.ids.ClassId.{ClassId}
use Rattle.slicer_ids.specs.declared.ids.MethodId.{MethodId}
use Rattle.slicer_ids.specs.declared.ids.SiteId.{SiteId}
use Rattle.slicer_ids.specs.declared.ids.FieldId.{FieldId}
use Rattle.slicer_ids.specs.declared.ids.CallId.{CallId}
use Rattle.slicer_ids.specs.declared.ids.Statement.{Statement}
use Rattle.class_form.specs.Classes.{Declared}
use Rattle.class_form.specs.declared.types.FieldType.{FieldType}
use Rattle.class_form.proofs.Indices.{index_at, there_at}
use Rattle.dep_form.specs.declared.rules.Entry.{Entry}
use Rattle.dep_form.specs.declared.rules.Var.{Var}
use Rattle.dep_form.specs.declared.rules.Rule.{Rule}
use Rattle.dep_form.specs.declared.rules.OutsideRule.{OutsideRule}
use Rattle.dep_form.specs.declared.rules.SiteInfo.{SiteInfo}
use Rattle.dep_form.specs.declared.rules.Spot.{Spot}
use Rattle.dep_form.specs.declared.call_site.CallSite.{CallSite}
use Rattle.dep_form.specs.declared.system.System.{System}
use Rattle.dep_form.specs.Within.{Counts, IsWithinRule, IsWithinCall, IsWithinSpot, IsVar, IfVar, IfSite, IfPlace, IfMethod, IsRuleOf}
use Rattle.dep_form.specs.Outside.{IsOutsideRule, IsReferenceArgument, IsWritten, IsChanged, IsFilled}
use Rattle.program_form.specs.Programs.{Program, IsRoot, Initializes}
use Rattle.program_form.specs.Statements.{HasOpcode}
use Rattle.program_form.specs.Sites.{Site, Made, OfRoot, HasType, SiteBefore, StandsAt}
use Rattle.program_form.specs.Facts.{Variable, FieldName, Named as NamedField, Elements, Length, State, GoesTo}
use Rattle.program_form.specs.Systems.{SiteNumber, FieldNumber, CallNumber, VariableNumber}
use Rattle.constraint_form.specs.Variables.{Meaning, Named, StandsFor, OperandNumber, of_definition, of_operand, AreVariables}
use Rattle.constraint_form.specs.Signatures.{IsChoice}
use Rattle.constraint_form.specs.Rules.{IsConstraint, IsDefined, IsRaisedAs}
use Rattle.constraint_form.specs.Rules as rule
use Rattle.constraint_form.specs.Touched.{IsTouch}
use Rattle.constraint_form.specs.Touched as touch
use Rattle.constraint_form.specs.ConstraintSystems.{AreSites, AreTypes}
use Rattle.constraint_form.proofs.Instructions.{in_range}
use Rattle.site_tables.specs.Tables.{IsSiteOf}
use Rattle.site_tables.proofs.Adding.{site_asym}
use Rattle.site_tables.proofs.WholeTable.{instruction_of}
use Rattle.constraint_rules.specs.Settings.{IsSetting}
use Rattle.constraint_rules.specs.declared.tables.Tables.{Tables}
use Rattle.constraints.specs.Calls.{IsCallAt, IsKnownCall, AreRulesOf}
use Rattle.constraints.proofs.Bare.{all_within}

-- ---- rules by call

pub rule_at : (ks : List CallSite) (rs : List OutsideRule) → AreRulesOf ks rs → (i : ℕ) (k : CallSite) (r : OutsideRule) → slice_get ks i ≡ Some k → slice_get rs i ≡ Some r → IsOutsideRule k.instance k.references r
rule_at [] rs are i k r at there = absurd cc
rule_at (k' ∷ ks) [] are i k r at there = absurd are
rule_at (k' ∷ ks) (r' ∷ rs) are zero k r at there =
    subst (λ (z : CallSite). IsOutsideRule z.instance z.references r) (same_Some k' k at) (subst (λ (z : OutsideRule). IsOutsideRule k'.instance k'.references z) (same_Some r' r there) are.0)
rule_at (k' ∷ ks) (r' ∷ rs) are (suc i) k r at there = rule_at ks rs are.1 i k r at there

pub as_many : (ks : List CallSite) (rs : List OutsideRule) → AreRulesOf ks rs → length rs ≡ length ks
as_many [] [] are = refl
as_many [] (r ∷ rs) are = absurd are
as_many (k ∷ ks) [] are = absurd are
as_many (k ∷ ks) (r ∷ rs) are = ap suc (as_many ks rs are.1)

reference_below : (k : CallSite) (i : ℕ) → IsReferenceArgument k.references i → i < length k.arguments
reference_below k i at = omega (arith, slice_get_within k.references i true at, k.as_many)

changed_below : (k : CallSite) (instance : Bool) (i : ℕ) → IsChanged instance k.references i → i < length k.arguments
changed_below k true i (e, some) = omega (arith, e, some, k.as_many)
changed_below k false i at = reference_below k i at

filled_below : (k : CallSite) (instance : Bool) (i : ℕ) → IsFilled instance k.references i → i < length k.arguments
filled_below k true i (some, at) = reference_below k i at
filled_below k false i at = absurd at

pub arguments_of_rule : (k : CallSite) (r : OutsideRule) → IsOutsideRule k.instance k.references r → IsRuleOf k r
arguments_of_rule k r is = (
  All-weaker (IsReferenceArgument k.references) (λ i. i < length k.arguments) (reference_below k) r.reads is.reads.each,
  All-weaker (IsWritten k.instance k.references) (λ i. i < length k.arguments) (λ i h. omega (arith, h.0, k.as_many)) r.written is.written.each,
  All-weaker (IsChanged k.instance k.references) (λ i. i < length k.arguments) (changed_below k k.instance) r.states is.states.each,
  All-weaker (IsFilled k.instance k.references) (λ i. i < length k.arguments) (filled_below k k.instance) r.arrays is.arrays.each,
)

-- ---- sites

module _ (p : Program) (sites : List SiteInfo) (are : AreSites p sites) where
  pub site_below : (n : SiteId) (h : Site) → SiteNumber p n h → n.0 < length sites
  site_below n h (xs, a, at) =
      let same : xs ≡ are.listed.0 = one_ordered SiteBefore (IsSiteOf p) xs are.listed.0 (λ x y u v. site_asym x y) a are.listed.1 in
      omega (arith, slice_get_within are.listed.0 n.0 h (subst (λ (zs : List Site). slice_get zs n.0 ≡ Some h) same at), are.listed.2)

  pub site_place : (info : SiteInfo) (k : ℕ) → slice_get sites k ≡ Some info → (h : Site) × (u : FieldType) × HasType p h u × StandsAt h info.place info.k
  site_place info k at =
      let hs = are.listed.0 in
      let (h, there) = index_at hs k (omega (arith, slice_get_within sites k info at, are.listed.2)) in
      let (u, typed) = All-contains (IsSiteOf p) hs h are.listed.1.each (there_at hs k h there) in
      (h, u, typed, are.places (record { 0 = k }) h info (hs, are.listed.1, there) at)

-- ---- all parts

one_var : (n : Counts) (x : Var) → IsVar n x → All (IsVar n) (x ∷ [])
one_var n x lt = All-cons (IsVar n) x [] lt (All-nil (IsVar n))

module _ (t : Tables) (p : Program) (s : System) (names : List Meaning) (set : IsSetting t p s names) (entered : (e : Entry) → Contains p.entries e → e.method.0 < length p.methods)
    (n : Counts) (methods : n.methods ≡ length p.methods) (sites : n.sites ≡ length t.sites.now) (fields : n.fields ≡ s.fields) (vars : n.vars ≡ s.vars) (calls : n.calls ≡ length s.calls) where
  variables : AreVariables p s names
  variables = set.named.variables s set.has

  stands_below : (x : Var) (a : Meaning) → StandsFor names x a → IsVar n x
  stands_below x a at = omega (arith, slice_get_within names x.0 a at, variables.count, vars)

  var_below : (v : Variable) (x : Var) → VariableNumber p s v x → IsVar n x
  var_below v x number = stands_below x (Named v) (variables.numbers v x number)

  operand_below : (u : Statement) (i : ℕ) (x : Var) → OperandNumber p s names u i x → IsVar n x
  operand_below u i x (of_definition {d} is only number) = var_below _ x number
  operand_below u i x (of_operand at) = stands_below x _ at

  defined_below : (u : Statement) (i : ℕ) (x : Var) → IsDefined p s names u i x → IsVar n x
  defined_below u i x (d, o, number) = var_below _ x number

  raised_below : (u : Statement) (x : Var) → IsRaisedAs p s names u x → IsVar n x
  raised_below u x (inl (o, number)) = operand_below u 0 x number
  raised_below u x (inr (o, number)) = var_below _ x number

  number_below : (m : SiteId) (h : Site) → SiteNumber p m h → m.0 < n.sites
  number_below m h at = omega (arith, site_below p t.sites.now set.sites m h at, sites)

  field_below : (f : FieldName) (g : FieldId) → FieldNumber s f g → g.0 < n.fields
  field_below (NamedField f) g (e, lt) = omega (arith, ap (λ (z : FieldId). z.0) e, lt, fields)
  field_below Elements g e = omega (arith, ap (λ (z : FieldId). z.0) e, s.three_fields, fields)
  field_below Length g e = omega (arith, ap (λ (z : FieldId). z.0) e, s.three_fields, fields)
  field_below State g e = omega (arith, ap (λ (z : FieldId). z.0) e, s.three_fields, fields)

  call_below : (u : Statement) (c : CallId) → CallNumber s u c → c.0 < n.calls
  call_below u c (k, at, place) = omega (arith, slice_get_within s.calls c.0 k at, calls)

  method_below : (m : MethodId) (d : Declared) → slice_get p.methods m.0 ≡ Some d → m.0 < n.methods
  method_below m d at = omega (arith, slice_get_within p.methods m.0 d at, methods)

  initializer_below : (c : ℕ) (m : MethodId) → Initializes p c m → m.0 < n.methods
  initializer_below c m (d, x, name, bytes, (at, is), called, above) = method_below m d at

  statement_below : (u : Statement) (K : ℕ → Type 0) → HasOpcode p u K → u.method.0 < n.methods
  statement_below u K o = omega (arith, in_range p set.of.read u K o, methods)

  target_below : (u : Statement) (m : MethodId) → GoesTo p u m → m.0 < n.methods
  target_below u m (key, d, named, (at, concrete), way) = method_below m d at

  pub rule_within : {m : MethodId} {r : Rule} → IsConstraint p s names m r → IsWithinRule n r
  rule_within (rule.enters {r} {e} root has) = omega (arith, entered e has, methods)
  rule_within (rule.given root has arguments number site) = (var_below _ _ number, number_below _ _ site)
  rule_within (rule.given_elements root a b) = (number_below _ _ a, number_below _ _ b)
  rule_within (rule.entry_initializes {m} root has of is) = initializer_below _ m is
  rule_within (rule.initializes {m} o needs is) = initializer_below _ m is
  rule_within (rule.allocates o number site) = (var_below _ _ number, number_below _ _ site)
  rule_within (rule.nests o a b) = (number_below _ _ a, number_below _ _ b)
  rule_within (rule.reads_fresh o named number site) = (var_below _ _ number, number_below _ _ site)
  rule_within (rule.copies o from to) = (defined_below _ _ _ from, var_below _ _ to)
  rule_within (rule.casts o named filter from to) = (defined_below _ _ _ from, var_below _ _ to)
  rule_within (rule.answers o from to) = (defined_below _ _ _ from, var_below _ _ to)
  rule_within (rule.writes_static o is from to) = (defined_below _ _ _ from, var_below _ _ to)
  rule_within (rule.joins from to) = (defined_below _ _ _ from, stands_below _ _ to)
  rule_within (rule.reads_field f o named base number to) = (operand_below _ _ _ base, field_below _ _ number, var_below _ _ to)
  rule_within (rule.reads_element o base to) = (operand_below _ _ _ base, field_below Elements _ refl, var_below _ _ to)
  rule_within (rule.reads_static o is from to) = (var_below _ _ from, var_below _ _ to)
  rule_within (rule.writes_field f o named base from number) = (operand_below _ _ _ base, field_below _ _ number, operand_below _ _ _ from)
  rule_within (rule.writes_element o base from) = (operand_below _ _ _ base, field_below Elements _ refl, operand_below _ _ _ from)
  rule_within (rule.calls {t} {m} o goes number) = (call_below _ _ number, target_below t m goes)
  rule_within (rule.goes_outside o none number) = call_below _ _ number
  rule_within (rule.selects o named signature number) = call_below _ _ number
  rule_within (rule.catches raised covered filter to) = (raised_below _ _ raised, var_below _ _ to)
  rule_within (rule.leaves raised may to) = (raised_below _ _ raised, var_below _ _ to)

  pub root_below : (m : MethodId) → IsRoot p m → m.0 ≤ n.methods
  root_below m e = omega (arith, e, methods)

  pub touch_within : {u : Statement} {w : Bool} {sp : Spot} → IsTouch p s names u w sp → (u.method.0 < n.methods) × IsWithinSpot n sp
  touch_within {u} (touch.writes_field f {x} o named base number) = (statement_below u _ o, (one_var n x (operand_below u 0 x base), field_below _ _ number))
  touch_within {u} (touch.writes_element {x} o base) = (statement_below u _ o, (one_var n x (operand_below u 0 x base), field_below Elements _ refl))
  touch_within {u} (touch.writes_static o is number) = (statement_below u _ o, var_below _ _ number)
  touch_within {u} (touch.makes_array o site) = (statement_below u _ o, (number_below _ _ site, field_below Length _ refl))
  touch_within {u} (touch.makes_dimension o site) = (statement_below u _ o, (number_below _ _ site, field_below Length _ refl))
  touch_within {u} (touch.makes_elements o site typed) = (statement_below u _ o, (number_below _ _ site, field_below Elements _ refl))
  touch_within {u} (touch.reads_field f {x} o named base number) = (statement_below u _ o, (one_var n x (operand_below u 0 x base), field_below _ _ number))
  touch_within {u} (touch.reads_element {x} o base) = (statement_below u _ o, (one_var n x (operand_below u 0 x base), field_below Elements _ refl))
  touch_within {u} (touch.reads_length {x} o base) = (statement_below u _ o, (one_var n x (operand_below u 0 x base), field_below Length _ refl))
  touch_within {u} (touch.reads_static o is number) = (statement_below u _ o, var_below _ _ number)

  -- a call
  fresh_below : (u : Statement) (k : CallSite) → IsCallAt p s names u k → (o : Option SiteId) → k.fresh ≡ o → IfSite n o
  fresh_below u k is None e = tt
  fresh_below u k is (Some m) e = number_below m (Made u 0) ((is.fresh m).0 e)

  pub call_within : (k : CallSite) → IsKnownCall p s names k → IsWithinCall n k
  call_within k (u, is) = (
    subst (λ (o : Option Statement). IfPlace n o) (sym is.place) (statement_below u _ is.type.1.0),
    all_within (IsVar n) k.arguments (λ i x at. operand_below u i x (is.arguments i x at)),
    subst (λ (o : Option Var). IfVar n o) (sym is.value.1) (var_below _ is.value.0 is.value.2),
    var_below _ k.exception is.thrown,
    fresh_below u k is k.fresh refl,
  )

  -- a site
  place_below : (h : Site) (u : FieldType) (place : Option Statement) (k : ℕ) → HasType p h u → StandsAt h place k → IfPlace n place
  place_below (Made v j) u place k typed (e, number) =
      let (b, i, at) = instruction_of p v j u typed in
      subst (λ (o : Option Statement). IfPlace n o) (sym e) (statement_below v (λ op. Unit {0}) (b, i, at, tt))
  place_below (OfRoot j) u place k typed (e, number) = subst (λ (o : Option Statement). IfPlace n o) (sym e) tt

  pub sites_within : All (λ (i : SiteInfo). IfPlace n i.place) t.sites.now
  sites_within = all_within (λ (i : SiteInfo). IfPlace n i.place) t.sites.now (λ k info at.
      let (h, u, typed, stands) = site_place p t.sites.now set.sites info k at in place_below h u info.place info.k typed stands)

  -- what classes select
  choice_below : (d : Declared) (o : Option MethodId) → IsChoice p d o → IfMethod n o
  choice_below d None is = tt
  choice_below d (Some m) is = method_below m d is.0

  pub selects_within : (subclasses : List (ClassId × ClassId)) (selects : List (ℕ × ClassId × Option MethodId)) → AreTypes p subclasses selects → All (λ (x : ℕ × ClassId × Option MethodId). IfMethod n x.2) selects
  selects_within subclasses selects types = all_within (λ (x : ℕ × ClassId × Option MethodId). IfMethod n x.2) selects (λ k x at.
      let (key, name, d, number, named, selected, choice) = (types.selected x.0 x.1 x.2).0 (there_at selects k x at) in choice_below d x.2 choice)

-- A system that has the variables of tables, and nothing else: numbers are spoken of by it before the system is made.
use Rattle.std.proofs.Common.{◌≡◌, ◌<◌, ◌≤◌, ℕ, true, false, List, [], ◌∷◌, map, length, get_or, Option, Some, None, All, Contains, refl, sym, ap, subst, ◌∙◌, arith}
use Rattle.std.specs.Prelude.{slice_get}
use Rattle.std.proofs.lemmas.Bool.{false≢true}
use Rattle.std.proofs.lemmas.List.{length-map}
use Rattle.std.proofs.lemmas.Option.{slice_get_within, slice_get-get_or}
use Rattle.std.proofs.lemmas.List.Elements.{All-contains, All-nil, All-map}
use Rattle.slicer_ids.specs.declared.ids.ClassId.{ClassId}
use Rattle.slicer_ids.specs.declared.ids.MethodId.{MethodId}
use Rattle.slicer_ids.specs.declared.ids.Statement.{Statement}
use Rattle.class_form.specs.Opcodes.{IsCall}
use Rattle.class_form.proofs.Indices.{there_at}
use Rattle.dep_form.specs.declared.rules.Var.{Var}
use Rattle.dep_form.specs.declared.rules.MethodVars.{MethodVars}
use Rattle.dep_form.specs.declared.rules.OutsideRule.{OutsideRule}
use Rattle.dep_form.specs.declared.rules.SiteInfo.{SiteInfo}
use Rattle.dep_form.specs.declared.rules.Touch.{Touch}
use Rattle.dep_form.specs.declared.call_site.CallSite.{CallSite}
use Rattle.dep_form.specs.declared.system.System.{System}
use Rattle.dep_form.specs.Within.{Counts, IsWithinConstraint, IsWithinCall, IsWithinMethod, IsWithinSpot, IsWithinSystem, IsVar, IfVar, IfPlace, IfMethod, IsRuleOf}
use Rattle.program_form.specs.Programs.{Program}
use Rattle.program_form.specs.Statements.{HasOpcode}
use Rattle.program_form.specs.Facts.{ValueOf, ArgumentOf, ResultOf, ThrownBy, CaughtAt, ExceptionOf}
use Rattle.constraint_form.specs.Asked.{IsReadProgram}
use Rattle.constraint_form.specs.Variables.{Meaning, Named}
use Rattle.constraint_form.proofs.Instructions.{in_range}
use Rattle.variable_tables.specs.Numbers.{keys_of}
use Rattle.variable_tables.specs.Tables.{AreTables, HasVariables, IsEntry, thrown_by_call, thrown_by_entry}
use Rattle.variable_tables.specs.declared.tables.VariableTables.{VariableTables}
use Rattle.variable_tables.proofs.Naming.{entries_listed}
use Rattle.variable_tables.proofs.Listing.{map_at}
use Rattle.variable_tables.proofs.Keys.{contains_key}

pub all_within : {A : Type 0} (P : A → Type 0) (xs : List A) → ((k : ℕ) (x : A) → slice_get xs k ≡ Some x → P x) → All P xs
all_within {A} P xs h k d lt = h k (get_or xs k d) (slice_get-get_or xs k d lt)

pub none_few : length {A = Var} [] ≤ 256
none_few = omega arith

pub no_receiver : false ≡ true → 0 < length {A = Var} []
no_receiver e = absurd (false≢true e)

abbrev pub bare_call : Statement × Var → CallSite
bare_call e = record {
  place = Some e.0;
  arguments = [];
  references = [];
  instance = false;
  result = None;
  exception = e.1;
  fresh = None;
  refused = None;
  few = none_few;
  as_many = refl;
  receiver = no_receiver;
}

abbrev pub bare_rule : Statement × Var → OutsideRule
bare_rule e = record { reads = []; written = []; states = []; arrays = [] }

module _ (p : Program) (asked : IsReadProgram p) (foreign : List (List ℕ × List ℕ)) (t : VariableTables) (are : AreTables p (length foreign) t) where
  -- what the tables number is below their count
  pub entry_below : (a : Meaning) (x : Var) → IsEntry (length p.fields) foreign t a x → x.0 < t.vars
  entry_below a x entry =
      let behind = are.numbered.2 in
      let listed = entries_listed (length p.fields) foreign t are.numbered.0 behind.numbered.0 are.numbered.1 behind.numbered.1 behind.numbered.2 in
      let (i, number, there) = (listed.exact a x).0 entry in
      omega (arith, number, slice_get_within listed.names i a there, listed.count)

  module _ (n : Counts) (vars : n.vars ≡ t.vars) (methods : n.methods ≡ length p.methods) where
    var_below : (a : Meaning) (x : Var) → IsEntry (length p.fields) foreign t a x → IsVar n x
    var_below a x entry = omega (arith, entry_below a x entry, vars)

    -- the variables of methods are within
    pub methods_within : All (IsWithinMethod n) t.methods
    methods_within = all_within (IsWithinMethod n) t.methods (λ m v there. (
      all_within (IsVar n) v.formals (λ i x at. var_below (Named (ArgumentOf (record { 0 = m }) i)) x (v, there, at)),
      answer m v there v.result refl,
      var_below (Named (ThrownBy (record { 0 = m }))) v.thrown (v, there, refl),
      all_within (λ (e : ℕ × Var). IsVar n e.1) v.values (λ i e at. var_below (Named (ValueOf (record { method = record { 0 = m }; pc = e.0 }))) e.1 (v, there, there_at v.values i e at)),
      all_within (λ (e : ℕ × Var). IsVar n e.1) v.caught (λ i e at. var_below (Named (CaughtAt (record { 0 = m }) e.0)) e.1 (v, there, there_at v.caught i e at)),
    ))
      where
        answer : (m : ℕ) (v : MethodVars) → slice_get t.methods m ≡ Some v → (o : Option Var) → v.result ≡ o → IfVar n o
        answer m v there None e = tt
        answer m v there (Some x) e = var_below (Named (ResultOf (record { 0 = m }))) x (v, there, e)

    -- what calls throw is within, and their places
    pub exception_within : (e : Statement × Var) → Contains t.exceptions e → (e.0.method.0 < n.methods) × IsVar n e.1
    exception_within e c =
        let behind = are.numbered.2 in
        let call : HasOpcode p e.0 IsCall = All-contains (λ s. HasOpcode p s IsCall) (keys_of t.exceptions) e.0 behind.calls.each (contains_key t.exceptions e.0 e.1 c) in
        (omega (arith, in_range p asked e.0 IsCall call, methods), var_below (Named (ExceptionOf e.0)) e.1 c)

  abbrev pub bare_calls : List CallSite
  bare_calls = map bare_call t.exceptions

  abbrev pub bare_rules : List OutsideRule
  bare_rules = map bare_rule t.exceptions

  pub as_many_rules : length bare_rules ≡ length bare_calls
  as_many_rules = length-map t.exceptions bare_rule ∙ sym (length-map t.exceptions bare_call)

  empty_rule : (i : ℕ) (k : CallSite) (r : OutsideRule) → slice_get bare_rules i ≡ Some r → IsRuleOf k r
  empty_rule i k r there =
      let (e, at, same) = map_at bare_rule t.exceptions i r there in
      subst (λ (z : OutsideRule). IsRuleOf k z) same (All-nil (λ j. j < length k.arguments), All-nil (λ j. j < length k.arguments), All-nil (λ j. j < length k.arguments), All-nil (λ j. j < length k.arguments))

  pub bare_within : (fields : ℕ) → IsWithinSystem [] bare_calls t.methods [] [] bare_rules [] fields t.vars
  bare_within fields =
      let n : Counts = record { calls = length bare_calls; methods = length t.methods; sites = 0; fields = fields; vars = t.vars } in (
        All-nil (IsWithinConstraint n),
        All-map (IsWithinCall n) bare_call t.exceptions (all_within (λ (e : Statement × Var). IsWithinCall n (bare_call e)) t.exceptions (λ i e at.
            let h = exception_within n refl are.methods.count e (there_at t.exceptions i e at) in
            (h.0, All-nil (IsVar n), tt, h.1, tt))),
        methods_within n refl are.methods.count,
        All-nil (λ (i : SiteInfo). IfPlace n i.place),
        All-nil (λ (y : Touch). (y.place.method.0 < n.methods) × IsWithinSpot n y.spot),
        All-nil (λ (x : ℕ × ClassId × Option MethodId). IfMethod n x.2),
        λ i k r at there. empty_rule i k r there,
      )

  abbrev pub bare_system : (fields : ℕ) → 3 ≤ fields → System
  bare_system fields three = record {
    constraints = [];
    calls = bare_calls;
    methods = t.methods;
    sites = [];
    subclasses = [];
    selects = [];
    touches = [];
    outside_rules = bare_rules;
    fields = fields;
    vars = t.vars;
    three_fields = three;
    rule_each = as_many_rules;
    within = ∣ bare_within fields ∣₁;
  }

  pub bare_has : (fields : ℕ) (three : 3 ≤ fields) → HasVariables (bare_system fields three) t
  bare_has fields three = record { methods = refl; exceptions = same t.exceptions; vars = refl }
    where
      same : (es : List (Statement × Var)) → map thrown_by_call (map bare_call es) ≡ map thrown_by_entry es
      same [] = refl
      same (e ∷ es) = ap (λ (us : List (Option Statement × Var)). thrown_by_entry e ∷ us) (same es)

-- The least program has a system of constraints.
use Rattle.std.proofs.Common.{◌≡◌, ◌≢◌, ◌⊎◌, ◌<◌, ℕ, zero, suc, Bool, true, false, List, [], ◌∷◌, length, get_or, Option, Some, None, refl, sym, subst, ap, ◌∙◌, inl, inr, arith}
use Rattle.std.specs.Prelude.{slice_get, Contains, AllPairs}
use Rattle.std.proofs.lemmas.Bool.{false≢true, cases_lt}
use Rattle.std.proofs.lemmas.Option.{same_Some, slice_get_within}
use Rattle.std.proofs.lemmas.List.Elements.{All-cons, All-contains}
use Rattle.slicer_ids.proofs.Ordered.{Contains-cons_cases}
use Rattle.slicer_ids.specs.declared.ids.MethodId.{MethodId}
use Rattle.slicer_ids.specs.declared.ids.ClassId.{ClassId}
use Rattle.slicer_ids.specs.declared.ids.SiteId.{SiteId}
use Rattle.slicer_ids.specs.declared.ids.Statement.{Statement}
use Rattle.class_form.specs.Pools.{MemberKey}
use Rattle.class_form.specs.Opcodes.{IsLoad, IsStore, IsReferenceLoad, IsReferenceStore, IsValueReturn, IsGetStatic, IsPutStatic, IsGetField, IsPutField, IsCall, IsVirtualCall, IsSpecialCall, IsStaticCall, IsThrow, IsCheckCast, IsArrayLoad, IsArrayStore, IsArrayLength, IsNewArray, IsMultiNewArray}
use Rattle.class_form.specs.Classes.{IsSub, IsNative}
use Rattle.class_form.specs.declared.class_file.Member.{Member}
use Rattle.class_form.specs.declared.class_file.Attribute.{Attribute}
use Rattle.class_form.specs.declared.class_file.CodeBody.{CodeBody}
use Rattle.class_form.specs.declared.class_file.Content.TheVariants.{Code}
use Rattle.class_form.proofs.Indices.{there_at, index_at}
use Rattle.dep_form.specs.declared.rules.Entry.{Entry}
use Rattle.dep_form.specs.declared.rules.Var.{Var}
use Rattle.dep_form.specs.declared.rules.Rule.{Rule}
use Rattle.dep_form.specs.declared.rules.Rule.TheVariants.{Enter, Alloc, Hold}
use Rattle.dep_form.specs.declared.rules.Constraint.{Constraint}
use Rattle.dep_form.specs.declared.rules.MethodVars.{MethodVars}
use Rattle.dep_form.specs.declared.rules.SiteInfo.{SiteInfo}
use Rattle.dep_form.specs.declared.rules.Spot.{Spot}
use Rattle.dep_form.specs.declared.rules.Touch.{Touch}
use Rattle.dep_form.specs.declared.call_site.CallSite.{CallSite}
use Rattle.dep_form.specs.declared.system.System.{System}
use Rattle.dep_form.specs.Within.{Counts, IsWithinSystem, IsWithinConstraint, IsWithinCall, IsWithinMethod, IsWithinSpot, IsVar, IfPlace, IfMethod}
use Rattle.dep_form.specs.Constraints.{IsMethodVars}
use Rattle.program_form.specs.Statements.{HasOpcode}
use Rattle.program_form.specs.Sites.{OfRoot, Made}
use Rattle.program_form.specs.Facts.{Variable, ValueOf, ArgumentOf, ResultOf, ThrownBy, CaughtAt, ExceptionOf, StaticField, StaticNamed}
use Rattle.program_form.specs.Systems.{SiteNumber, VariableNumber, of_value, of_argument, of_result, of_thrown, of_caught, of_exception, of_field, of_foreign}
use Rattle.program_form.specs.Tiny.{tiny_program, tiny_method, tiny_entry, tiny_code}
use Rattle.program_form.proofs.Tiny.{single, never}
use Rattle.program_form.proofs.TinySystem.{root, argument, array_site, string_site, array_info, string_info, entering, giving, holding, three, all_none}
use Rattle.program_form.proofs.TinyTie.{tiny_tie, which, numbered_site}
use Rattle.constraint_form.specs.Variables.{Meaning, Named, Operand, StandsFor, MakesObject, ReadsFirst, ReadsObject, IsVariable, AreVariables}
use Rattle.constraint_form.specs.Signatures.{SignatureNumber, IsSignature}
use Rattle.constraint_form.specs.Rules.{IsConstraint, IsRaisedAs}
use Rattle.constraint_form.specs.Rules as rule
use Rattle.constraint_form.specs.Touched.{IsTouch}
use Rattle.constraint_form.specs.Touched as touch
use Rattle.constraint_form.specs.ConstraintSystems.{AreSites, AreCalls, AreTypes, AreOrdered, IsConstraintSystem}
use Rattle.constraint_form.proofs.LeastProgram.{no_initializer, only_formal, main_formal, method_number}

abbrev pub result : Var
result = record { 0 = 1 }

abbrev pub thrown : Var
thrown = record { 0 = 2 }

abbrev pub vars : MethodVars
vars = record { formals = argument ∷ []; result = Some result; thrown = thrown; values = []; caught = []; native = false }

abbrev pub names : List Meaning
names = Named (ArgumentOf tiny_method 0) ∷ Named (ResultOf tiny_method) ∷ Named (ThrownBy tiny_method) ∷ []

abbrev pub count : Counts
count = record { calls = 0; methods = 1; sites = 2; fields = 3; vars = 3 }

pub within : IsWithinSystem (entering ∷ giving ∷ holding ∷ []) [] (vars ∷ []) (array_info ∷ string_info ∷ []) [] [] [] 3 3
within = (
  All-cons (IsWithinConstraint count) entering (giving ∷ holding ∷ []) (omega arith, omega arith) (All-cons (IsWithinConstraint count) giving (holding ∷ []) (omega arith, (omega arith, omega arith)) (All-cons (IsWithinConstraint count) holding [] (omega arith, (omega arith, omega arith)) (all_none (IsWithinConstraint count)))),
  all_none (IsWithinCall count),
  All-cons (IsWithinMethod count) vars [] (All-cons (IsVar count) argument [] (omega arith) (all_none (IsVar count)), omega arith, omega arith, all_none (λ (p : ℕ × Var). IsVar count p.1), all_none (λ (p : ℕ × Var). IsVar count p.1)) (all_none (IsWithinMethod count)),
  All-cons (λ (i : SiteInfo). IfPlace count i.place) array_info (string_info ∷ []) tt (All-cons (λ (i : SiteInfo). IfPlace count i.place) string_info [] tt (all_none (λ (i : SiteInfo). IfPlace count i.place))),
  all_none (λ (t : Touch). (t.place.method.0 < 1) × IsWithinSpot count t.spot),
  all_none (λ (s : ℕ × ClassId × Option MethodId). IfMethod count s.2),
  λ i c r e. absurd (cc e),
)

abbrev pub least_system : System
least_system = record {
  constraints = entering ∷ giving ∷ holding ∷ [];
  calls = [];
  methods = vars ∷ [];
  sites = array_info ∷ string_info ∷ [];
  subclasses = (record { 0 = 0 }, record { 0 = 0 }) ∷ [];
  selects = [];
  touches = [];
  outside_rules = [];
  fields = 3;
  vars = 3;
  three_fields = three;
  rule_each = refl;
  within = ∣ within ∣₁;
}

first_site : SiteNumber tiny_program array_site (OfRoot 0)
first_site = numbered_site 0 (OfRoot 0) refl

second_site : SiteNumber tiny_program string_site (OfRoot 1)
second_site = numbered_site 1 (OfRoot 1) refl

-- main returns, and does nothing else
no_call : (t : Statement) → HasOpcode tiny_program t IsCall → ⊥
no_call t o = never t IsCall (λ k. omega (arith, k.0, k.1)) o

no_virtual : (t : Statement) → HasOpcode tiny_program t IsVirtualCall → ⊥
no_virtual t o = never t IsVirtualCall (λ k. elim k [ inl e ↦ omega (arith, e) | inr e ↦ omega (arith, e) ]) o

no_object : MakesObject 177 → ⊥
no_object (inl (inl e)) = omega (arith, e)
no_object (inl (inr (inl e))) = omega (arith, e.1)
no_object (inl (inr (inr (inl e)))) = omega (arith, e)
no_object (inl (inr (inr (inr e)))) = omega (arith, e.1)
no_object (inr (inl e)) = omega (arith, e.1)
no_object (inr (inr (inl e))) = omega (arith, e.1)
no_object (inr (inr (inr (inl e)))) = omega (arith, e)
no_object (inr (inr (inr (inr (inl e))))) = omega (arith, e)
no_object (inr (inr (inr (inr (inr (inl e)))))) = omega (arith, e)
no_object (inr (inr (inr (inr (inr (inr (inl e))))))) = omega (arith, e)
no_object (inr (inr (inr (inr (inr (inr (inr e))))))) = omega (arith, e.0)

no_read : ReadsFirst 177 → ⊥
no_read (inl e) = omega (arith, e)
no_read (inr (inl e)) = omega (arith, e)
no_read (inr (inr (inl e))) = omega (arith, e.1)
no_read (inr (inr (inr (inl e)))) = omega (arith, e.1)
no_read (inr (inr (inr (inr (inl e))))) = omega (arith, e)
no_read (inr (inr (inr (inr (inr e))))) = omega (arith, e)

nothing_read : (t : Statement) (i : ℕ) → ReadsObject tiny_program t i → ⊥
nothing_read t i (inl (e, o)) = never t ReadsFirst no_read o
nothing_read t i (inr (inl (e, o))) = never t IsPutField (λ k. omega (arith, k)) o
nothing_read t i (inr (inr (inl (e, o)))) = never t IsReferenceStore (λ k. omega (arith, k)) o
nothing_read t i (inr (inr (inr (m, b, type, has, lt)))) = no_call t type.0

no_element : {A : Type 0} (x : A) → Contains [] x → ⊥
no_element x c = omega (arith, c.1)

-- the variables
method_vars : (n : ℕ) (v : MethodVars) → slice_get least_system.methods n ≡ Some v → (n ≡ 0) × (v ≡ vars)
method_vars zero v e = (refl, same_Some v vars (sym e))
method_vars (suc n) v e = absurd cc

formal_at : (n : ℕ) (x : Var) → slice_get vars.formals n ≡ Some x → (n ≡ 0) × (x ≡ argument)
formal_at zero x e = (refl, same_Some x argument (sym e))
formal_at (suc n) x e = absurd cc

same_method : (m : MethodId) → m.0 ≡ 0 → m ≡ tiny_method
same_method m e = ap (λ k. record { 0 = k }) e

stands : (v w : Variable) (x y : Var) → v ≡ w → x ≡ y → StandsFor names y (Named w) → StandsFor names x (Named v)
stands v w x y e f h = subst (λ z. StandsFor names x (Named z)) (sym e) (subst (λ z. StandsFor names z (Named w)) (sym f) h)

numbers : (v : Variable) (x : Var) → VariableNumber tiny_program least_system v x → StandsFor names x (Named v)
numbers v x (of_value {t} {m} is c) = absurd (no_element (t.pc, x) (subst (λ (y : MethodVars). Contains y.values (t.pc, x)) (method_vars t.method.0 m is).1 c))
numbers v x (of_argument {n} {i} {m} is at) =
    let e = method_vars n.0 m is in
    let f = formal_at i x (subst (λ (y : MethodVars). slice_get y.formals i ≡ Some x) e.1 at) in
    stands v (ArgumentOf tiny_method 0) x argument (ap (λ k. ArgumentOf k i) (same_method n e.0) ∙ ap (λ k. ArgumentOf tiny_method k) f.0) f.1 refl
numbers v x (of_result {n} {m} is at) =
    let e = method_vars n.0 m is in
    let f : x ≡ result = sym (same_Some result x (subst (λ (y : MethodVars). y.result ≡ Some x) e.1 at)) in
    stands v (ResultOf tiny_method) x result (ap (λ k. ResultOf k) (same_method n e.0)) f refl
numbers v x (of_thrown {n} {m} is at) =
    let e = method_vars n.0 m is in
    let f : x ≡ thrown = sym (subst (λ (y : MethodVars). y.thrown ≡ x) e.1 at) in
    stands v (ThrownBy tiny_method) x thrown (ap (λ k. ThrownBy k) (same_method n e.0)) f refl
numbers v x (of_caught {n} {h} {m} is c) = absurd (no_element (h, x) (subst (λ (y : MethodVars). Contains y.caught (h, x)) (method_vars n.0 m is).1 c))
numbers v x (of_exception c {k} is place e) = absurd (let h : None ≡ Some k = is in cc h)
numbers v x (of_field lt e) = absurd (omega (arith, lt))
numbers v x (of_foreign {ns} {name} {descriptor} i listed at e) =
    let foreign = listed.each i (name, descriptor) (slice_get_within ns i (name, descriptor) at) in
    absurd (never foreign.0 (λ op. IsGetStatic op ⊎ IsPutStatic op) (λ k. elim k [ inl a ↦ omega (arith, a) | inr b ↦ omega (arith, b) ]) foreign.2)

abbrev code_attribute : Attribute
code_attribute = record { name = 5; content = Code tiny_code }

no_handler : (m : MethodId) (pc : ℕ) → IsVariable tiny_program (CaughtAt m pc) → ⊥
no_handler m pc (c, h, (d, x, name, bytes, method, (a, among, is)), has, e) =
    let member = (method_number m d x name bytes method).1 in
    let attribute : code_attribute ≡ a = single code_attribute a (subst (λ (y : Member). Contains y.attributes a) member among) in
    let code : Code tiny_code ≡ Code c = subst (λ (y : Attribute). y.content ≡ Code c) (sym attribute) is in
    let same : tiny_code ≡ c = cc code in
    no_element h (subst (λ (y : CodeBody). Contains y.handlers h) (sym same) has)

whole : (v : Variable) → IsVariable tiny_program v → (x : Var) × VariableNumber tiny_program least_system v x
whole (ValueOf t) h = absurd (never t MakesObject no_object h)
whole (ArgumentOf m i) h =
    let (e, f) = only_formal m i h in
    (argument, subst (λ k. VariableNumber tiny_program least_system (ArgumentOf m k) argument) (sym f) (subst (λ k. VariableNumber tiny_program least_system (ArgumentOf k 0) argument) (sym e) (of_argument refl refl)))
whole (ResultOf m) h = (result, subst (λ k. VariableNumber tiny_program least_system (ResultOf k) result) (sym (same_method m (omega (arith, h)))) (of_result refl refl))
whole (ThrownBy m) h = (thrown, subst (λ k. VariableNumber tiny_program least_system (ThrownBy k) thrown) (sym (same_method m (omega (arith, h)))) (of_thrown refl refl))
whole (CaughtAt m pc) h = absurd (no_handler m pc h)
whole (ExceptionOf t) h = absurd (no_call t h)
whole (StaticField f) h = absurd (omega (arith, h))
whole (StaticNamed name descriptor) (t, key, o, none, is, e, f) = absurd (never t (λ op. IsGetStatic op ⊎ IsPutStatic op) (λ k. elim k [ inl a ↦ omega (arith, a) | inr b ↦ omega (arith, b) ]) o)

is_named : (v : Variable) → Contains names (Named v) → IsVariable tiny_program v
is_named v (zero, lt, e) = let s : ArgumentOf tiny_method 0 ≡ v = cc e in subst (IsVariable tiny_program) s main_formal
is_named v (suc zero, lt, e) = let s : ResultOf tiny_method ≡ v = cc e in subst (IsVariable tiny_program) s (omega arith)
is_named v (suc (suc zero), lt, e) = let s : ThrownBy tiny_method ≡ v = cc e in subst (IsVariable tiny_program) s (omega arith)
is_named v (suc (suc (suc k)), lt, e) = absurd (omega (arith, lt))

no_joined : (t : Statement) (i : ℕ) → Contains names (Operand t i) → ReadsObject tiny_program t i
no_joined t i (zero, lt, e) = absurd (cc e)
no_joined t i (suc zero, lt, e) = absurd (cc e)
no_joined t i (suc (suc zero), lt, e) = absurd (cc e)
no_joined t i (suc (suc (suc k)), lt, e) = absurd (omega (arith, lt))

once : AllPairs (λ (a b : Meaning). a ≢ b) names
once zero zero d lt within = absurd (omega arith)
once zero (suc zero) d lt within = λ e. absurd (cc e)
once zero (suc (suc zero)) d lt within = λ e. absurd (cc e)
once (suc zero) zero d lt within = absurd (omega arith)
once (suc zero) (suc zero) d lt within = absurd (omega arith)
once (suc zero) (suc (suc zero)) d lt within = λ e. absurd (cc e)
once (suc (suc i)) zero d lt within = absurd (omega arith)
once (suc (suc i)) (suc zero) d lt within = absurd (omega arith)
once (suc (suc i)) (suc (suc zero)) d lt within = absurd (omega arith)
once i (suc (suc (suc j))) d lt within = absurd (omega arith)

least_variables : AreVariables tiny_program least_system names
least_variables = record {
  count = refl;
  once = once;
  numbers = numbers;
  whole = whole;
  named = is_named;
  operands = λ t i h. absurd (nothing_read t i h);
  read = no_joined;
  apart = λ t i d x c is only n. nothing_read t i (no_joined t i c);
}

-- the sites are those of the system that was made before
least_sites : AreSites tiny_program least_system.sites
least_sites = record {
  listed = (second_site.0, second_site.1, two);
  places = tiny_tie.places;
  arrays = tiny_tie.arrays;
  objects = tiny_tie.objects;
}
  where
    beyond : 2 < length second_site.0 → ⊥
    beyond lt =
        let x = index_at second_site.0 2 lt in
        elim (which (record { 0 = 2 }) x.0 (second_site.0, second_site.1, x.1)) [ inl w ↦ omega (arith, w.0) | inr w ↦ omega (arith, w.0) ]

    two : 2 ≡ length second_site.0
    two = elim (cases_lt 2 (length second_site.0)) [ inl lt ↦ absurd (beyond lt) | inr le ↦ omega (arith, le, slice_get_within second_site.0 1 (OfRoot 1) second_site.2) ]

least_calls : AreCalls tiny_program least_system names
least_calls = record {
  listed = ([], record { each = λ i d lt. absurd (omega (arith, lt)); order = λ i j d lt within. absurd (omega (arith, within)); whole = λ t o. absurd (no_call t o) }, refl);
  types = λ t c k of. absurd (no_site c.0 k of.0);
  arguments = λ t c k i x of at. absurd (no_site c.0 k of.0);
  results = λ t c k of. absurd (no_site c.0 k of.0);
  fresh = λ t c k n of. absurd (no_site c.0 k of.0);
  refusals = λ t c k n of. absurd (no_site c.0 k of.0);
  rules = λ c k r is at. absurd (no_site c.0 k is);
}
  where
    no_site : (n : ℕ) (k : CallSite) → slice_get least_system.calls n ≡ Some k → ⊥
    no_site n k e = absurd (cc e)

no_signature : (key : MemberKey) (g : ℕ) → SignatureNumber tiny_program key g → ⊥
no_signature key g (gs, listed, at) =
    let signature : IsSignature tiny_program (key.name, key.descriptor) = All-contains (IsSignature tiny_program) gs (key.name, key.descriptor) listed.each (there_at gs g (key.name, key.descriptor) at) in
    no_virtual signature.0 signature.2

abbrev object_class : ClassId
object_class = record { 0 = 0 }

least_types : AreTypes tiny_program least_system.subclasses least_system.selects
least_types = record {
  subs = λ c d. (
    λ h.
        let e : (object_class, object_class) ≡ (c, d) = single (object_class, object_class) (c, d) h in
        subst (λ (x : ClassId × ClassId). (x.0.0 < 1) × (x.1.0 < 1) × IsSub tiny_program.classes x.0.0 x.1.0) e (omega arith, omega arith, ([], refl)),
    λ (lt, gt, is).
        let e : c ≡ object_class = ap (λ k. record { 0 = k }) (omega (arith, lt)) in
        let f : d ≡ object_class = ap (λ k. record { 0 = k }) (omega (arith, gt)) in
        subst (λ x. Contains least_system.subclasses (x, d)) (sym e) (subst (λ x. Contains least_system.subclasses (object_class, x)) (sym f) (0, omega arith, refl)),
  );
  signatures = λ key h. absurd (no_virtual h.0 h.2);
  selected = λ g c o. (λ h. absurd (no_element (g, c, o) h), λ (key, name, d, sig, named, sel, choice). absurd (no_signature key g sig));
  others = λ g c key name sig named unlisted. absurd (no_signature key g sig);
}

-- its constraints are the root's three
made : (m : MethodId) (r : Rule) → Contains least_system.constraints (record { method = m; rule = r }) → IsConstraint tiny_program least_system names m r
made m r h = elim (Contains-cons_cases entering (record { method = m; rule = r }) (giving ∷ holding ∷ []) h) [
  | inl e ↦ subst (λ (x : Constraint). IsConstraint tiny_program least_system names x.method x.rule) e (rule.enters {e = tiny_entry} refl (0, omega arith, refl))
  | inr o ↦ elim (Contains-cons_cases giving (record { method = m; rule = r }) (holding ∷ []) o) [
    | inl e ↦ subst (λ (x : Constraint). IsConstraint tiny_program least_system names x.method x.rule) e (rule.given {e = tiny_entry} refl (0, omega arith, refl) refl (of_argument refl refl) first_site)
    | inr q ↦ subst (λ (x : Constraint). IsConstraint tiny_program least_system names x.method x.rule) (single holding (record { method = m; rule = r }) q) (rule.given_elements refl first_site second_site)
  ]
]

same_root : (m : MethodId) → m.0 ≡ 1 → m ≡ root
same_root m e = ap (λ k. record { 0 = k }) e

array_number : (n : SiteId) → SiteNumber tiny_program n (OfRoot 0) → n ≡ array_site
array_number n s = elim (which n (OfRoot 0) s) [ inl w ↦ ap (λ k. record { 0 = k }) w.0 | inr w ↦ absurd (cc w.1) ]

string_number : (n : SiteId) → SiteNumber tiny_program n (OfRoot 1) → n ≡ string_site
string_number n s = elim (which n (OfRoot 1) s) [ inl w ↦ absurd (cc w.1) | inr w ↦ ap (λ k. record { 0 = k }) w.0 ]

no_made : (t : Statement) (k : ℕ) (n : SiteId) → SiteNumber tiny_program n (Made t k) → ⊥
no_made t k n s = elim (which n (Made t k) s) [ inl w ↦ absurd (cc w.1) | inr w ↦ absurd (cc w.1) ]

abbrev Listed : MethodId → Rule → Type 0
Listed m r = Contains least_system.constraints (record { method = m; rule = r })

only : {m : MethodId} {r : Rule} → IsConstraint tiny_program least_system names m r → Listed m r
only (rule.enters {r = m} {e} is c) =
    subst (λ x. Listed x (Enter e.method)) (sym (same_root m is)) (subst (λ (x : Entry). Listed root (Enter x.method)) (single tiny_entry e c) (0, omega arith, refl))
only (rule.given {r = m} {e} {x} {n} is c given vn sn) =
    let v : StandsFor names x (Named (ArgumentOf tiny_method 0)) = subst (λ (y : Entry). StandsFor names x (Named (ArgumentOf y.method 0))) (sym (single tiny_entry e c)) (numbers (ArgumentOf e.method 0) x vn) in
    let number : x ≡ argument = ap (λ k. record { 0 = k }) (argument_at x.0 v) in
    subst (λ y. Listed y (Alloc x n)) (sym (same_root m is)) (subst (λ y. Listed root (Alloc y n)) (sym number) (subst (λ y. Listed root (Alloc argument y)) (sym (array_number n sn)) (1, omega arith, refl)))
  where
    argument_at : (k : ℕ) → slice_get names k ≡ Some (Named (ArgumentOf tiny_method 0)) → k ≡ 0
    argument_at zero e = refl
    argument_at (suc zero) e = absurd (cc e)
    argument_at (suc (suc zero)) e = absurd (cc e)
    argument_at (suc (suc (suc k))) e = absurd (cc e)
only (rule.given_elements {r = m} {a} {b} is sa sb) =
    subst (λ y. Listed y (Hold a b)) (sym (same_root m is)) (subst (λ y. Listed root (Hold y b)) (sym (array_number a sa)) (subst (λ y. Listed root (Hold array_site y)) (sym (string_number b sb)) (2, omega arith, refl)))
only (rule.entry_initializes {c} {m} is e k i) = absurd (no_initializer c m i)
only (rule.initializes {c} {m} o n i) = absurd (no_initializer c m i)
only (rule.allocates {t} {n} o vn sn) = absurd (no_made t 0 n sn)
only (rule.nests {t} {k} {a} o sa sb) = absurd (no_made t k a sa)
only (rule.reads_fresh {t} {n} o none vn sn) = absurd (no_made t 0 n sn)
only (rule.copies {t} o a b) = absurd (never t (λ op. IsLoad op ⊎ IsStore op) (λ k. elim k [ inl e ↦ omega (arith, e.1) | inr e ↦ omega (arith, e.1) ]) o)
only (rule.casts {t} o a b c d) = absurd (never t IsCheckCast (λ k. omega (arith, k)) o)
only (rule.answers {t} o a b) = absurd (never t IsValueReturn (λ k. omega (arith, k.1)) o)
only (rule.writes_static {t} o a b c) = absurd (never t IsPutStatic (λ k. omega (arith, k)) o)
only (rule.joins {t} {i} {y} a stands) = absurd (no_operand y.0 t i stands)
  where
    no_operand : (k : ℕ) (t : Statement) (i : ℕ) → slice_get names k ≡ Some (Operand t i) → ⊥
    no_operand zero t i e = absurd (cc e)
    no_operand (suc zero) t i e = absurd (cc e)
    no_operand (suc (suc zero)) t i e = absurd (cc e)
    no_operand (suc (suc (suc k))) t i e = absurd (cc e)
only (rule.reads_field {t} f o a b c d) = absurd (never t IsGetField (λ k. omega (arith, k)) o)
only (rule.reads_element {t} o a b) = absurd (never t IsReferenceLoad (λ k. omega (arith, k)) o)
only (rule.reads_static {t} o a b c) = absurd (never t IsGetStatic (λ k. omega (arith, k)) o)
only (rule.writes_field {t} f o a b c d) = absurd (never t IsPutField (λ k. omega (arith, k)) o)
only (rule.writes_element {t} o a b) = absurd (never t IsReferenceStore (λ k. omega (arith, k)) o)
only (rule.calls {t} o a b) = absurd (no_call t o)
only (rule.goes_outside {t} o a b) = absurd (never t (λ op. IsStaticCall op ⊎ IsSpecialCall op) (λ k. elim k [ inl e ↦ omega (arith, e) | inr e ↦ omega (arith, e) ]) o)
only (rule.selects {t} o a b c) = absurd (no_virtual t o)
only (rule.catches {t} (inl (o, a)) b c d) = absurd (never t IsThrow (λ k. omega (arith, k)) o)
only (rule.catches {t} (inr (o, a)) b c d) = absurd (no_call t o)
only (rule.leaves {t} (inl (o, a)) b c) = absurd (never t IsThrow (λ k. omega (arith, k)) o)
only (rule.leaves {t} (inr (o, a)) b c) = absurd (no_call t o)

untouched : {t : Statement} {write : Bool} {spot : Spot} → IsTouch tiny_program least_system names t write spot → ⊥
untouched {t} (touch.writes_field f o a b c) = never t IsPutField (λ k. omega (arith, k)) o
untouched {t} (touch.writes_element o a) = never t IsArrayStore (λ k. omega (arith, k.1)) o
untouched {t} (touch.writes_static o a b) = never t IsPutStatic (λ k. omega (arith, k)) o
untouched {t} (touch.makes_array o a) = never t IsNewArray (λ k. omega (arith, k.0)) o
untouched {t} (touch.makes_dimension o a) = never t IsMultiNewArray (λ k. omega (arith, k)) o
untouched {t} (touch.makes_elements o a b) = never t IsMultiNewArray (λ k. omega (arith, k)) o
untouched {t} (touch.reads_field f o a b c) = never t IsGetField (λ k. omega (arith, k)) o
untouched {t} (touch.reads_element o a) = never t IsArrayLoad (λ k. omega (arith, k.1)) o
untouched {t} (touch.reads_length o a) = never t IsArrayLength (λ k. omega (arith, k)) o
untouched {t} (touch.reads_static o a b) = never t IsGetStatic (λ k. omega (arith, k)) o

by_root : (i : ℕ) (d : Constraint) → i < 3 → (get_or least_system.constraints i d).method.0 ≡ 1
by_root zero d lt = refl
by_root (suc zero) d lt = refl
by_root (suc (suc zero)) d lt = refl
by_root (suc (suc (suc i))) d lt = absurd (omega (arith, lt))

least_order : AreOrdered least_system
least_order = record {
  values = λ m v is. subst (λ (x : MethodVars). AllPairs (λ (a b : ℕ × Var). a.0 < b.0) x.values) (sym (method_vars m.0 v is).1) (λ i j d lt within. absurd (omega (arith, within)));
  caught = λ m v is. subst (λ (x : MethodVars). AllPairs (λ (a b : ℕ × Var). a.0 < b.0) x.caught) (sym (method_vars m.0 v is).1) (λ i j d lt within. absurd (omega (arith, within)));
  subclasses = λ i j d lt within. absurd (omega (arith, lt, within));
  selects = λ i j d lt within. absurd (omega (arith, within));
  constraints = λ i j d lt within. omega (arith, by_root i d (omega (arith, lt, within)), by_root j d within);
  touches = λ i j d lt within. absurd (omega (arith, within));
}

pub least_tables : IsConstraintSystem tiny_program least_system
least_tables = (
  names,
  record {
    methods = refl;
    fields = refl;
    natives = λ m v d x name descriptor is method. (λ e. absurd (no_native m v is e), λ e. absurd (not_native (subst (λ (y : Member). IsNative y.flags) (method_number m d x name descriptor method).1 e)));
    variables = least_variables;
    sites = least_sites;
    calls = least_calls;
    types = least_types;
    constraints = λ m r. (made m r, only);
    touches = λ t write spot. (λ h. absurd (no_element _ h), λ h. absurd (untouched h));
    order = least_order;
  },
)
  where
    no_native : (m : MethodId) (v : MethodVars) → IsMethodVars least_system m v → v.native ≡ true → ⊥
    no_native m v is e = false≢true (ap (λ (y : MethodVars). y.native) (sym (method_vars m.0 v is).1) ∙ e)

    not_native : IsNative 9 → ⊥
    not_native h = h refl

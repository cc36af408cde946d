-- What is kept of the calls of a program.
use Rattle.std.proofs.Common.{◌≡◌, ◌⊎◌, ℕ, zero, suc, Bool, true, false, List, [], ◌∷◌, ◌++◌, map, length, Option, Some, None, Contains, inl, inr, refl, sym, ap, subst, ◌∙◌}
use Rattle.std.specs.Prelude.{◌↔◌, IsTrue, IfSome, slice_get}
use Rattle.std.proofs.lemmas.Bool.{false≢true}
use Rattle.std.proofs.lemmas.List.{map-append}
use Rattle.std.proofs.lemmas.Option.{same_Some}
use Rattle.slicer_ids.specs.declared.ids.ClassId.{ClassId}
use Rattle.slicer_ids.specs.declared.ids.Statement.{Statement}
use Rattle.class_form.specs.Pools.{MemberKey, member_at}
use Rattle.class_form.specs.Opcodes.{IsCall, IsInstanceCall}
use Rattle.class_form.specs.Classes.{IsNamed, IsOutside}
use Rattle.class_form.specs.declared.class_file.ClassFile.{ClassFile}
use Rattle.dep_form.specs.declared.rules.Var.{Var}
use Rattle.dep_form.specs.declared.rules.OutsideRule.{OutsideRule}
use Rattle.dep_form.specs.declared.call_site.CallSite.{CallSite}
use Rattle.dep_form.specs.declared.system.System.{System}
use Rattle.dep_form.specs.Outside.{IsReflection, IsOutsideRule}
use Rattle.program_form.specs.Programs.{Program}
use Rattle.program_form.specs.Statements.{HasOpcode, NamesMember, NamesDescriptor, IsInstance}
use Rattle.program_form.specs.Sites.{Made}
use Rattle.program_form.specs.Facts.{ValueOf, ExceptionOf}
use Rattle.program_form.specs.Systems.{SiteNumber, VariableNumber, of_exception}
use Rattle.constraint_form.specs.Variables.{Meaning, OperandNumber, MakesObject, AreVariables}
use Rattle.constraint_form.proofs.Instructions.{kind}
use Rattle.constraint_form.proofs.Numbers.{is_variable}
use Rattle.variable_tables.specs.Growth.{GrowsInOrder}
use Rattle.variable_tables.specs.Tables.{HasVariables, thrown_by_call}
use Rattle.variable_tables.specs.declared.tables.VariableTables.{VariableTables}
use Rattle.variable_tables.proofs.InOrder.{grows_none, grows_one}
use Rattle.variable_tables.proofs.LookingUp.{exception_to, exception_from}
use Rattle.constraint_rules.specs.One.{IsOne}
use Rattle.constraint_rules.specs.Settings.{IsSetting, IsPlaced, place_of}
use Rattle.constraint_rules.specs.Statements.{IsValue}
use Rattle.constraint_rules.specs.declared.tables.Tables.{Tables}
use Rattle.constraint_rules.specs.declared.tables.Reachable.{Reachable}
use Rattle.constraints.specs.Places.{PlaceBefore}
use Rattle.constraints.specs.Calls.{AreFlagsAt, IsRefused, IsRefusedBy, AreArguments, IsCallAt, Thrown, ThrownBefore, IsThrownAt, AreRulesOf}
use Rattle.constraints.proofs.Standing.{none_of, one_same, kind_at, kind_here, named_here, key_here}

-- ---- what is refused

module _ (t : Tables) (x : Reachable) (p : Program) (s : System) (names : List Meaning) (set : IsSetting t p s names) (at : IsPlaced p x) where
  one_key : (key other : MemberKey) → member_at x.file.now.pool x.instr.now.index ≡ Some key → NamesMember p (place_of x) other → key ≡ other
  one_key key other e names_it = same_Some key other (sym e ∙ key_here p set.of.read x at other names_it)

  pub nothing_named : member_at x.file.now.pool x.instr.now.index ≡ None → IsOne (IsRefusedBy p (place_of x)) None
  nothing_named e = none_of (IsRefusedBy p (place_of x)) (λ n (key, names_it, out, is). let g : None ≡ Some key = sym e ∙ key_here p set.of.read x at key names_it in cc g)

  pub by_names : (key : MemberKey) (o : Option ℕ) → member_at x.file.now.pool x.instr.now.index ≡ Some key → IsOne (IsRefused t.h.now key) o → IsOne (IsRefusedBy p (place_of x)) o
  by_names key o e one =
      one_same (IsRefused t.h.now key) (IsRefusedBy p (place_of x)) o
      (λ n (out, is). (key, named_here p set.of.read x at key e, subst (λ (ks : List ClassFile). IsOutside ks key.class) (sym set.of.classes_are) out, is))
      (λ n (other, names_it, far, is).
      let same = one_key key other e names_it in (
        subst (λ (ks : List ClassFile). IsOutside ks key.class) set.of.classes_are (subst (λ (z : MemberKey). IsOutside p.classes z.class) (sym same) far),
        subst (λ (z : MemberKey). IsReflection z.class z.name n) (sym same) is,
      ))
      one

-- a class of the folder refuses nothing
pub in_folder : (classes : List ClassFile) (key : MemberKey) (c : ClassId) → IsNamed classes key.class c.0 → IsOne (IsRefused classes key) None
in_folder classes key c is = none_of (IsRefused classes key) (λ n (out, reflects). out c.0 is)

pub outside_folder : (classes : List ClassFile) (key : MemberKey) (o : Option ℕ) → IsOutside classes key.class → IsOne (IsReflection key.class key.name) o → IsOne (IsRefused classes key) o
outside_folder classes key o out one = one_same (IsReflection key.class key.name) (IsRefused classes key) o (λ n is. (out, is)) (λ n (far, is). is) one

pub found_or_not : (P : ℕ → Type 0) (o : Option ℕ) → IfSome o P → ((n : ℕ) → P n → o ≡ Some n) → IsOne P o
found_or_not P None found only = λ n. (only n, λ e. absurd (cc e))
found_or_not P (Some k) found only = λ n. (only n, λ e. subst P (same_Some k n e) found)

-- ---- arguments

last_or : {A : Type 0} (xs : List A) (x y : A) (j : ℕ) → slice_get (xs ++ x ∷ []) j ≡ Some y → (slice_get xs j ≡ Some y) ⊎ ((j ≡ length xs) × (x ≡ y))
last_or [] x y zero e = inr (refl, same_Some x y e)
last_or [] x y (suc j) e = absurd cc
last_or (z ∷ xs) x y zero e = inl e
last_or (z ∷ xs) x y (suc j) e = elim (last_or xs x y j e) [ inl h ↦ inl h | inr h ↦ inr (ap suc h.0, h.1) ]

pub arguments_push : (p : Program) (s : System) (names : List Meaning) (t : Statement) (old new : List Var) (v : Var) (i : ℕ) → new ≡ old ++ v ∷ [] → length old ≡ i
    → OperandNumber p s names t i v → AreArguments p s names t old → AreArguments p s names t new
arguments_push p s names t old new v i e size is are = subst (λ (xs : List Var). AreArguments p s names t xs) (sym e) (λ j x at. elim (last_or old v x j at) [
  | inl h ↦ are j x h
  | inr (place, same) ↦ subst (λ k. OperandNumber p s names t k x) (sym size ∙ sym place) (subst (λ z. OperandNumber p s names t i z) same is)
])

-- ---- a call

calls_make : (op : ℕ) → IsCall op → MakesObject op
calls_make op is = inr (inr (inr (inr (inr (inr (inr is))))))

module _ (t : Tables) (x : Reachable) (p : Program) (s : System) (names : List Meaning) (set : IsSetting t p s names) (at : IsPlaced p x) where
  variables : AreVariables p s names
  variables = set.named.variables s set.has

  -- what has a variable for what it throws is a call
  pub is_call : (v : Var) → VariableNumber p s (ExceptionOf (place_of x)) v → HasOpcode p (place_of x) IsCall
  is_call v number = is_variable p s names variables (ExceptionOf (place_of x)) v number

  pub call_known : (k : CallSite) (v : Var) → VariableNumber p s (ExceptionOf (place_of x)) v → k.place ≡ Some (place_of x) → k.exception ≡ v → IsTrue k.instance ↔ IsInstanceCall x.instr.now.op
      → AreFlagsAt k.instance x.file.now.pool x.instr.now.index k.references → AreArguments p s names (place_of x) k.arguments → IsOne (IsValue p s names (place_of x)) k.result
      → IsOne (λ n. SiteNumber p n (Made (place_of x) 0)) k.fresh → IsOne (IsRefusedBy p (place_of x)) k.refused → IsCallAt p s names (place_of x) k
  call_known k v number place throws instance (bytes, named, (m, type, flags)) arguments value fresh refused =
      let call = is_call v number in
      let descriptor : NamesDescriptor p (place_of x) bytes = (x.body.now, x.instr.now, at.file.0, x.file.now, at.at, at.file.1, named) in
      let whole = variables.whole (ValueOf (place_of x)) (kind p set.of.read (place_of x) IsCall MakesObject calls_make call) in
      record {
        place = place;
        type = (m, (call, bytes, descriptor, type), receiver k.instance instance call, flags);
        arguments = arguments;
        thrown = subst (λ (z : Var). VariableNumber p s (ExceptionOf (place_of x)) z) (sym throws) number;
        value = (whole.0, (value whole.0).0 whole.1, whole.1);
        fresh = λ n. ((fresh n).1, (fresh n).0);
        refused = λ n. ((refused n).1, (refused n).0);
      }
    where
      receiver : (r : Bool) → IsTrue r ↔ IsInstanceCall x.instr.now.op → HasOpcode p (place_of x) IsCall → IsInstance p (place_of x) r
      receiver true is call = kind_here p set.of.read x at IsInstanceCall (is.0 refl)
      receiver false is call = kind_here p set.of.read x at (λ op. IsCall op × (IsInstanceCall op → ⊥)) (kind_at p set.of.read x at IsCall call, λ h. false≢true (is.1 h))

-- ---- what calls throw

exception_number : (p : Program) (s : System) (t : VariableTables) (has : HasVariables s t) (u : Statement) (x : Var) → VariableNumber p s (ExceptionOf u) x → Contains t.exceptions (u, x)
exception_number p s t has u x (of_exception {t = w} c {k} is place e) = exception_to p s t has u x c.0 k is place e

module _ (p : Program) (s : System) (t : VariableTables) (has : HasVariables s t) (x : Reachable) where
  -- one more call
  pub thrown_more : (old new : List CallSite) (k : CallSite) (v : Var) → new ≡ old ++ k ∷ [] → k.place ≡ Some (place_of x) → k.exception ≡ v
      → IsOne (VariableNumber p s (ExceptionOf (place_of x))) (Some v)
      → GrowsInOrder ThrownBefore (map thrown_by_call old) (map thrown_by_call new) (IsThrownAt t.exceptions x)
  thrown_more old new k v e place is one =
      let f : map thrown_by_call new ≡ map thrown_by_call old ++ thrown_by_call k ∷ [] = ap (λ (zs : List CallSite). map thrown_by_call zs) e ∙ map-append thrown_by_call old (k ∷ []) in
      let here : Contains t.exceptions (place_of x, v) = exception_number p s t has (place_of x) v ((one v).1 refl) in
      let pair : thrown_by_call k ≡ (Some (place_of x), v) = cc (place, is) in
      grows_one ThrownBefore (λ u. ⊥) (map thrown_by_call old) (map thrown_by_call new) (thrown_by_call k) (IsThrownAt t.exceptions x) f (v, here, pair) (λ n. n)
      (λ u (w, among, at). let same : v ≡ w = same_Some v w ((one w).0 (exception_from p s t has (place_of x) w among)) in pair ∙ pairs v w same ∙ sym at)
    where
      pairs : (v w : Var) → v ≡ w → (let y : Thrown = (Some (place_of x), v) in y) ≡ (Some (place_of x), w)
      pairs v w same = ap (λ z. (let y : Thrown = (Some (place_of x), z) in y)) same

  pub none_thrown : (old : List CallSite) → IsOne (VariableNumber p s (ExceptionOf (place_of x))) None → GrowsInOrder ThrownBefore (map thrown_by_call old) (map thrown_by_call old) (IsThrownAt t.exceptions x)
  none_thrown old one =
      grows_none ThrownBefore (λ u. ⊥) (map thrown_by_call old) (IsThrownAt t.exceptions x)
      (λ u (w, among, at). let e : None ≡ Some w = (one w).0 (exception_from p s t has (place_of x) w among) in cc e)

pub thrown_rise : (exceptions : List (Statement × Var)) (y z : Reachable) (a b : Thrown) → PlaceBefore y z → IsThrownAt exceptions y a → IsThrownAt exceptions z b → ThrownBefore a b
thrown_rise exceptions y z a b lt (v, c, e) (w, d, f) = (place_of y, place_of z, ap (λ (u : Thrown). u.0) e, ap (λ (u : Thrown). u.0) f, lt)

-- ---- rules by call

pub rules_push : (ks : List CallSite) (rs : List OutsideRule) (k : CallSite) (r : OutsideRule) → AreRulesOf ks rs → IsOutsideRule k.instance k.references r → AreRulesOf (ks ++ k ∷ []) (rs ++ r ∷ [])
rules_push [] [] k r are is = (is, tt)
rules_push [] (r' ∷ rs) k r are is = absurd are
rules_push (k' ∷ ks) [] k r are is = absurd are
rules_push (k' ∷ ks) (r' ∷ rs) k r are is = (are.0, rules_push ks rs k r are.1 is)

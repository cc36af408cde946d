-- Methods of a program: their members, arguments, handlers and statements.
use Rattle.std.proofs.Common.{◌≡◌, ◌⊎◌, ◌<◌, ◌+◌, ℕ, zero, suc, Bool, true, List, [], ◌∷◌, ◌++◌, length, Some, Contains, refl, sym, subst, ◌∙◌, inl, inr, arith}
use Rattle.std.specs.Prelude.{◌↔◌, slice_get}
use Rattle.std.proofs.lemmas.Option.{same_Some, none-some}
use Rattle.slicer_ids.specs.Sets.{IsOrderedListOf}
use Rattle.slicer_ids.proofs.GrowingOrder.{reworded}
use Rattle.slicer_ids.specs.declared.ids.MethodId.{MethodId}
use Rattle.class_form.specs.Pools.{utf_at}
use Rattle.class_form.specs.Types.{IsMethodType}
use Rattle.class_form.specs.Classes.{Declared, IsClass, IsDeclared, IsStatic, IsNative, HasCode}
use Rattle.class_form.specs.declared.class_file.ClassFile.{ClassFile}
use Rattle.class_form.specs.declared.class_file.Member.{Member}
use Rattle.class_form.specs.declared.types.MethodType.{MethodType}
use Rattle.class_form.specs.declared.body.Body.{Body}
use Rattle.class_form.proofs.OneType.{one_method_type}
use Rattle.body_form.specs.Bodies.{HasType}
use Rattle.program_form.specs.Programs.{Program, MethodOf, HasFormal}
use Rattle.program_form.specs.Statements.{HasOpcode}
use Rattle.program_form.specs.Facts.{CaughtAt}
use Rattle.program_form.specs.Nodes.{at}
use Rattle.dep_form.specs.declared.rules.MethodVars.{MethodVars}
use Rattle.constraint_form.specs.Asked.{IsReadProgram}
use Rattle.constraint_form.specs.Variables.{IsVariable, MakesObject}
use Rattle.variable_tables.specs.Arguments.{AreFormals, IsWithReceiver}
use Rattle.variable_tables.specs.declared.kinds.Kind.{Kind}
use Rattle.variable_tables.specs.declared.kinds.Kind.TheVariants.{Values}
use Rattle.variable_tables.specs.Numbers.{keys_of}
use Rattle.variable_tables.specs.Statements.{Rises, IsOfKind, IsHandlerPc}
use Rattle.variable_tables.specs.Members.{IsMethodAt, MethodHas}
use Rattle.variable_tables.specs.Tables.{IsNumbered, AreNumbered, IsOfMethod}
use Rattle.variable_tables.proofs.Listing.{at_either}

-- ---- one member
module _ (p : Program) (m : MethodId) (k : ClassFile) (x : Member) (there : IsMethodAt p m k x) where
  pub method_of : (d : Declared) × (name : List ℕ) × (descriptor : List ℕ) × MethodOf p m d x name descriptor
  method_of = let (d, name, descriptor, at, file, declared) = there in (d, name, descriptor, (at, (k, file, declared)))

  same_file : (d : Declared) (y : Member) (n e : List ℕ) (j : ClassFile) → slice_get p.methods m.0 ≡ Some d → IsClass p.classes d.class j → IsDeclared j j.methods n e d.index y
      → (y ≡ x) × (utf_at k.pool x.descriptor ≡ Some e)
  same_file d y n e j at file (index, named, described) =
      let (c, name, descriptor, here, of, declared) = there in
      let place : d ≡ c = same_Some d c (sym at ∙ here) in
      let files : j ≡ k = same_Some j k (sym (subst (λ (z : Declared). IsClass p.classes z.class j) place file) ∙ of) in
      let member : y ≡ x = same_Some y x (sym (subst (λ (z : Declared). slice_get k.methods z.index ≡ Some y) place (subst (λ (z : ClassFile). slice_get z.methods d.index ≡ Some y) files index)) ∙ declared.0) in
      (member, subst (λ (z : Member). utf_at k.pool z.descriptor ≡ Some e) member (subst (λ (z : ClassFile). utf_at z.pool y.descriptor ≡ Some e) files described))

  pub one_method : (d : Declared) (y : Member) (n e : List ℕ) → MethodOf p m d y n e → (y ≡ x) × (utf_at k.pool x.descriptor ≡ Some e)
  one_method d y n e (at, (j, file, declared)) = same_file d y n e j at file declared

  -- its type
  pub has_type : IsReadProgram p → (t : MethodType) × HasType k.pool x t
  has_type asked =
      let (d, name, descriptor, method) = method_of in
      let (t, is) = asked.types m d x name descriptor method in
      (t, (descriptor, (one_method d x name descriptor method).1, is))

  -- its arguments
  pub formals_are : (count : ℕ) → AreFormals k.pool x count → (i : ℕ) → HasFormal p m i ↔ (i < count)
  formals_are count (t, (text, utf, is), receiver) i = (to, from)
    where
      same_type : (d : Declared) (y : Member) (n e : List ℕ) (u : MethodType) → MethodOf p m d y n e → IsMethodType e u → u ≡ t
      same_type d y n e u method type =
          let bytes : e ≡ text = same_Some e text (sym (one_method d y n e method).1 ∙ utf) in
          one_method_type text u t (subst (λ z. IsMethodType z u) bytes type) is

      below : (u : MethodType) (y : Member) → u ≡ t → y ≡ x → (IsStatic y.flags × (i < length u.arguments)) ⊎ ((IsStatic y.flags → ⊥) × (i < 1 + length u.arguments))
          → IsWithReceiver (IsStatic x.flags) (IsStatic x.flags → ⊥) (length t.arguments) count → i < count
      below u y same member (inl (static, lt)) (inl (is, e)) = omega (arith, e, subst (λ (z : MethodType). i < length z.arguments) same lt)
      below u y same member (inl (static, lt)) (inr (never, e)) = absurd (never (subst (λ (z : Member). IsStatic z.flags) member static))
      below u y same member (inr (never, lt)) (inl (static, e)) = absurd (never (subst (λ (z : Member). IsStatic z.flags) (sym member) static))
      below u y same member (inr (never, lt)) (inr (is, e)) = omega (arith, e, subst (λ (z : MethodType). i < 1 + length z.arguments) same lt)

      to : HasFormal p m i → i < count
      to (d, y, n, e, u, method, type, range) = below u y (same_type d y n e u method type) (one_method d y n e method).0 range receiver

      range_of : i < count → IsWithReceiver (IsStatic x.flags) (IsStatic x.flags → ⊥) (length t.arguments) count
          → (IsStatic x.flags × (i < length t.arguments)) ⊎ ((IsStatic x.flags → ⊥) × (i < 1 + length t.arguments))
      range_of lt (inl (static, e)) = inl (static, omega (arith, e, lt))
      range_of lt (inr (never, e)) = inr (never, omega (arith, e, lt))

      from : i < count → HasFormal p m i
      from lt =
          let (d, name, descriptor, method) = method_of in
          let bytes : descriptor ≡ text = same_Some descriptor text (sym (one_method d x name descriptor method).1 ∙ utf) in
          (d, x, name, descriptor, t, method, subst (λ z. IsMethodType z t) (sym bytes) is, range_of lt receiver)

  -- its handlers
  pub handlers_to : (pc : ℕ) → IsHandlerPc x pc → IsVariable p (CaughtAt m pc)
  handlers_to pc (c, code, h, among, e) =
      let (d, name, descriptor, method) = method_of in
      (c, h, (d, x, name, descriptor, method, code), among, e)

  pub handlers_from : (pc : ℕ) → IsVariable p (CaughtAt m pc) → IsHandlerPc x pc
  handlers_from pc (c, h, (d, y, name, descriptor, method, code), among, e) =
      (c, subst (λ (z : Member). HasCode z c) (one_method d y name descriptor method).0 code, h, among, e)

  -- whether it is native
  pub native_is : (native : Bool) → (native ≡ true) ↔ IsNative x.flags → (d : Declared) (y : Member) (name descriptor : List ℕ) → MethodOf p m d y name descriptor
      → (native ≡ true) ↔ IsNative y.flags
  native_is native is d y name descriptor method =
      let same = (one_method d y name descriptor method).0 in (
        λ e. subst (λ (z : Member). IsNative z.flags) (sym same) (is.0 e),
        λ n. is.1 (subst (λ (z : Member). IsNative z.flags) same n),
      )

-- ---- statements of a method
module _ (p : Program) (kind : Kind) (bodies : List Body) (are : p.bodies ≡ bodies) (m : MethodId) (pc : ℕ) where
  pub opcode_to : MethodHas kind bodies m pc → HasOpcode p (at m pc) (IsOfKind kind)
  opcode_to (b, among, method, (q, point, (here, (i, has, place, is)))) =
      (b, i, (subst (λ (bs : List Body). Contains bs b) (sym are) among, method, has, place, (q, (point, here))), is)

  pub opcode_from : HasOpcode p (at m pc) (IsOfKind kind) → MethodHas kind bodies m pc
  opcode_from (b, i, (among, method, has, place, (q, (point, here))), is) =
      (b, subst (λ (bs : List Body). Contains bs b) are among, method, (q, point, (here, (i, has, place, is))))

-- the variables of a method, from what was found of it
pub of_method : (p : Program) (bodies : List Body) (m : MethodId) (k : ClassFile) (x : Member) (v : MethodVars) (count : ℕ) (values caught : List ℕ) (native : Bool)
    → IsMethodAt p m k x → p.bodies ≡ bodies → AreFormals k.pool x count → IsOrderedListOf Rises values (MethodHas Values bodies m) → IsOrderedListOf Rises caught (IsHandlerPc x)
    → (native ≡ true) ↔ IsNative x.flags → length v.formals ≡ count → keys_of v.values ≡ values → keys_of v.caught ≡ caught → v.native ≡ native → IsOfMethod p m v
of_method p bodies m k x v count values caught native there are formals vs cs ns size values_are caught_are native_is' = record {
  formals = λ i. subst (λ n. HasFormal p m i ↔ (i < n)) (sym size) (formals_are p m k x there count formals i);
  values = subst (λ ks. IsOrderedListOf Rises ks (λ pc. HasOpcode p (at m pc) MakesObject)) (sym values_are)
      (reworded Rises values (MethodHas Values bodies m) (λ pc. HasOpcode p (at m pc) MakesObject) (opcode_to p Values bodies are m) (opcode_from p Values bodies are m) vs);
  caught = subst (λ ks. IsOrderedListOf Rises ks (λ pc. IsVariable p (CaughtAt m pc))) (sym caught_are)
      (reworded Rises caught (IsHandlerPc x) (λ pc. IsVariable p (CaughtAt m pc)) (handlers_to p m k x there) (handlers_from p m k x there) cs);
  native = λ d y name descriptor method.
      subst (λ b. (b ≡ true) ↔ IsNative y.flags) (sym native_is') (native_is p m k x there native ns d y name descriptor method);
}

-- ---- all methods
pub numbered_push : (n k m : ℕ) (vs : List MethodVars) (v : MethodVars) → AreNumbered n vs k → IsNumbered k v m → AreNumbered n (vs ++ v ∷ []) m
numbered_push n k m [] v e is = (m, subst (λ i. IsNumbered i v m) (sym e) is, refl)
numbered_push n k m (w ∷ ws) v (j, first, rest) is = (j, first, numbered_push j k m ws v rest is)

pub each_push : (p : Program) (vs : List MethodVars) (v : MethodVars) (number : ℕ) → length vs ≡ number
    → ((m : MethodId) (w : MethodVars) → slice_get vs m.0 ≡ Some w → IsOfMethod p m w) → IsOfMethod p (record { 0 = number }) v
    → (m : MethodId) (w : MethodVars) → slice_get (vs ++ v ∷ []) m.0 ≡ Some w → IsOfMethod p m w
each_push p vs v number size each is m w there = elim (at_either vs (v ∷ []) m.0 w there) [
  | inl old ↦ each m w old
  | inr new ↦
      let last = only_one v new.0 w new.2 in
      let place : number ≡ m.0 = omega (arith, new.1, size, last.0) in
      subst (λ z. IsOfMethod p m z) last.1 (subst (λ n. IsOfMethod p (record { 0 = n }) v) place is)
]
  where
    only_one : (v : MethodVars) (i : ℕ) (w : MethodVars) → slice_get (v ∷ []) i ≡ Some w → (i ≡ 0) × (v ≡ w)
    only_one v zero w e = (refl, same_Some v w e)
    only_one v (suc i) w e = absurd (none-some w e)

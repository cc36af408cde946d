-- What each number of the tables of variables stands for.
use Rattle.std.proofs.Common.{◌≡◌, ◌<◌, ◌+◌, ◌⊎◌, ℕ, zero, suc, List, [], ◌∷◌, length, map, Some, Contains, inl, inr, refl, sym, ap, subst, ◌∙◌, arith}
use Rattle.std.specs.Prelude.{slice_get}
use Rattle.std.proofs.lemmas.List.{length-map}
use Rattle.std.proofs.lemmas.Option.{none-some, same_Some, slice_get_within}
use Rattle.slicer_ids.specs.declared.ids.MethodId.{MethodId}
use Rattle.slicer_ids.specs.declared.ids.Statement.{Statement}
use Rattle.class_form.proofs.Indices.{index_at}
use Rattle.dep_form.specs.declared.rules.Var.{Var}
use Rattle.dep_form.specs.declared.rules.MethodVars.{MethodVars}
use Rattle.program_form.specs.Facts.{ValueOf, ArgumentOf, ResultOf, ThrownBy, CaughtAt, ExceptionOf, StaticField, StaticNamed}
use Rattle.program_form.specs.Nodes.{at}
use Rattle.constraint_form.specs.Variables.{Meaning, Named, Operand}
use Rattle.variable_tables.specs.declared.tables.OperandPlace.{OperandPlace}
use Rattle.variable_tables.specs.declared.tables.VariableTables.{VariableTables}
use Rattle.variable_tables.specs.Numbers.{IsCounted, numbers_of}
use Rattle.variable_tables.specs.Tables.{IsNumbered, AreNumbered, IsEntry}
use Rattle.variable_tables.proofs.Counting.{counted_length, counted_at}
use Rattle.variable_tables.proofs.Listing.{Listed, listed_join, listed_same, listed_none, listed_list, listed_table, listed_by, listed_one, IsInList, map_at, mapped, same_var}

-- ---- a method's
module _ (m : MethodId) (v : MethodVars) where
  abbrev IsFormal : Meaning → Var → Type 0
  IsFormal a x = (i : ℕ) × (a ≡ Named (ArgumentOf m i)) × (slice_get v.formals i ≡ Some x)

  abbrev IsAnswer : Meaning → Var → Type 0
  IsAnswer a x = (a ≡ Named (ResultOf m)) × (v.result ≡ Some x)

  abbrev IsThrown : Meaning → Var → Type 0
  IsThrown a x = (a ≡ Named (ThrownBy m)) × (v.thrown ≡ x)

  abbrev IsValue : Meaning → Var → Type 0
  IsValue a x = (k : ℕ) × (a ≡ Named (ValueOf (at m k))) × Contains v.values (k, x)

  abbrev IsCaught : Meaning → Var → Type 0
  IsCaught a x = (k : ℕ) × (a ≡ Named (CaughtAt m k)) × Contains v.caught (k, x)

  abbrev OfMethod : Meaning → Var → Type 0
  OfMethod a x = IsFormal a x ⊎ (IsAnswer a x ⊎ (IsThrown a x ⊎ (IsValue a x ⊎ IsCaught a x)))

  formals_listed : (n a : ℕ) → IsCounted n v.formals a → Listed n a IsFormal
  formals_listed n a counted =
      listed_same n a (λ z x. (i : ℕ) × (i < length v.formals) × (x.0 ≡ n + i) × (z ≡ Named (ArgumentOf m i))) IsFormal to from
      (listed_by (λ i. Named (ArgumentOf m i)) n (length v.formals) a (counted_length n a v.formals counted))
    where
      to : (z : Meaning) (x : Var) → (i : ℕ) × (i < length v.formals) × (x.0 ≡ n + i) × (z ≡ Named (ArgumentOf m i)) → IsFormal z x
      to z x (i, lt, number, e) =
          let (y, there) = index_at v.formals i lt in
          let same = same_var y x (counted_at n a v.formals i y counted there ∙ sym number) in
          (i, e, there ∙ ap (λ w. Some w) same)

      from : (z : Meaning) (x : Var) → IsFormal z x → (i : ℕ) × (i < length v.formals) × (x.0 ≡ n + i) × (z ≡ Named (ArgumentOf m i))
      from z x (i, e, there) = (i, slice_get_within v.formals i x there, counted_at n a v.formals i x counted there, e)

  answer_listed : (n k : ℕ) → k ≡ n + 1 → v.result ≡ Some (record { 0 = n }) → Listed n k IsAnswer
  answer_listed n k e is =
      listed_same n k (λ z x. (z ≡ Named (ResultOf m)) × (x.0 ≡ n)) IsAnswer
      (λ z x h. (h.0, is ∙ ap (λ w. Some w) (same_var (record { 0 = n }) x (sym h.1))))
      (λ z x h. (h.0, ap (λ (w : Var). w.0) (same_Some x (record { 0 = n }) (sym h.1 ∙ is))))
      (listed_one n k (Named (ResultOf m)) e)

  thrown_listed : (n k : ℕ) → k ≡ n + 1 → v.thrown ≡ record { 0 = n } → Listed n k IsThrown
  thrown_listed n k e is =
      listed_same n k (λ z x. (z ≡ Named (ThrownBy m)) × (x.0 ≡ n)) IsThrown
      (λ z x h. (h.0, is ∙ same_var (record { 0 = n }) x (sym h.1)))
      (λ z x h. (h.0, ap (λ (w : Var). w.0) (sym h.1 ∙ is)))
      (listed_one n k (Named (ThrownBy m)) e)

  pub method_listed : (n k : ℕ) → IsNumbered n v k → Listed n k OfMethod
  method_listed n k (a, b, formals, answer, thrown, values, caught) =
      listed_join n a k IsFormal (λ z x. IsAnswer z x ⊎ (IsThrown z x ⊎ (IsValue z x ⊎ IsCaught z x))) (formals_listed n a formals)
      (listed_join a (a + 1) k IsAnswer (λ z x. IsThrown z x ⊎ (IsValue z x ⊎ IsCaught z x)) (answer_listed a (a + 1) refl answer)
      (listed_join (a + 1) (a + 2) k IsThrown (λ z x. IsValue z x ⊎ IsCaught z x) (thrown_listed (a + 1) (a + 2) (omega arith) thrown)
      (listed_join (a + 2) b k IsValue IsCaught
      (listed_table (λ pc. Named (ValueOf (at m pc))) v.values (a + 2) b values)
      (listed_table (λ h. Named (CaughtAt m h)) v.caught b k caught))))

-- ---- all methods'
abbrev OfMethods : (ℕ → MethodId) → List MethodVars → Meaning → Var → Type 0
OfMethods M vs a x = (i : ℕ) × (v : MethodVars) × (slice_get vs i ≡ Some v) × OfMethod (M i) v a x

methods_listed : (M : ℕ → MethodId) (vs : List MethodVars) (n k : ℕ) → AreNumbered n vs k → Listed n k (OfMethods M vs)
methods_listed M [] n k e = listed_none n k (OfMethods M []) e (λ a x h. none-some h.1 h.2)
methods_listed M (v ∷ vs) n k (j, first, rest) =
    listed_same n k (λ a x. OfMethod (M 0) v a x ⊎ OfMethods (λ i. M (suc i)) vs a x) (OfMethods M (v ∷ vs)) to from
    (listed_join n j k (OfMethod (M 0) v) (OfMethods (λ i. M (suc i)) vs) (method_listed (M 0) v n j first) (methods_listed (λ i. M (suc i)) vs j k rest))
  where
    to : (a : Meaning) (x : Var) → OfMethod (M 0) v a x ⊎ OfMethods (λ i. M (suc i)) vs a x → OfMethods M (v ∷ vs) a x
    to a x (inl o) = (0, v, refl, o)
    to a x (inr (i, w, there, o)) = (suc i, w, there, o)

    from : (a : Meaning) (x : Var) → OfMethods M (v ∷ vs) a x → OfMethod (M 0) v a x ⊎ OfMethods (λ i. M (suc i)) vs a x
    from a x (zero, w, there, o) = inl (subst (λ (u : MethodVars). OfMethod (M 0) u a x) (sym (same_Some v w there)) o)
    from a x (suc i, w, there, o) = inr (i, w, there, o)

-- ---- all
module _ (fields : ℕ) (foreign : List (List ℕ × List ℕ)) (t : VariableTables) where
  abbrev IsField : Meaning → Var → Type 0
  IsField a x = (i : ℕ) × (i < fields) × (x.0 ≡ 0 + i) × (a ≡ Named (StaticField (record { 0 = i })))

  abbrev IsForeign : Meaning → Var → Type 0
  IsForeign a x = IsInList fields (map (λ (nd : List ℕ × List ℕ). Named (StaticNamed nd.0 nd.1)) foreign) a x

  abbrev OfAll : Meaning → Var → Type 0
  OfAll a x = OfMethods (λ i. record { 0 = i }) t.methods a x

  abbrev IsException : Meaning → Var → Type 0
  IsException a x = (s : Statement) × (a ≡ Named (ExceptionOf s)) × Contains t.exceptions (s, x)

  abbrev IsOperand : Meaning → Var → Type 0
  IsOperand a x = (k : OperandPlace) × (a ≡ Operand k.statement k.operand) × Contains t.operands (k, x)

  abbrev IsAny : Meaning → Var → Type 0
  IsAny a x = IsField a x ⊎ (IsForeign a x ⊎ (OfAll a x ⊎ (IsException a x ⊎ IsOperand a x)))

  abbrev Entry : Meaning → Var → Type 0
  Entry = IsEntry fields foreign t

  of_method : (i : ℕ) (v : MethodVars) (a : Meaning) (x : Var) → slice_get t.methods i ≡ Some v → OfMethod (record { 0 = i }) v a x → Entry a x
  of_method i v a x there (inl (j, e, formal)) = subst (λ z. Entry z x) (sym e) (v, there, formal)
  of_method i v a x there (inr (inl (e, answer))) = subst (λ z. Entry z x) (sym e) (v, there, answer)
  of_method i v a x there (inr (inr (inl (e, thrown)))) = subst (λ z. Entry z x) (sym e) (v, there, thrown)
  of_method i v a x there (inr (inr (inr (inl (k, e, c))))) = subst (λ z. Entry z x) (sym e) (v, there, c)
  of_method i v a x there (inr (inr (inr (inr (k, e, c))))) = subst (λ z. Entry z x) (sym e) (v, there, c)

  any_to : (a : Meaning) (x : Var) → IsAny a x → Entry a x
  any_to a x (inl (i, lt, number, e)) = subst (λ z. Entry z x) (sym e) (lt, omega (arith, number))
  any_to a x (inr (inl (i, number, there))) =
      let (nd, at, is) = map_at (λ (nd : List ℕ × List ℕ). Named (StaticNamed nd.0 nd.1)) foreign i a there in
      subst (λ z. Entry z x) is (i, at, number)
  any_to a x (inr (inr (inl (i, v, there, o)))) = of_method i v a x there o
  any_to a x (inr (inr (inr (inl (s, e, c))))) = subst (λ z. Entry z x) (sym e) c
  any_to a x (inr (inr (inr (inr (k, e, c))))) = subst (λ z. Entry z x) (sym e) c

  any_from : (a : Meaning) (x : Var) → Entry a x → IsAny a x
  any_from (Named (StaticField f)) x (lt, e) = inl (f.0, lt, omega (arith, e), refl)
  any_from (Named (StaticNamed name descriptor)) x (i, there, e) =
      inr (inl (i, e, mapped (λ (nd : List ℕ × List ℕ). Named (StaticNamed nd.0 nd.1)) foreign i (name, descriptor) there))
  any_from (Named (ArgumentOf m i)) x (v, there, formal) = inr (inr (inl (m.0, v, there, inl (i, refl, formal))))
  any_from (Named (ResultOf m)) x (v, there, answer) = inr (inr (inl (m.0, v, there, inr (inl (refl, answer)))))
  any_from (Named (ThrownBy m)) x (v, there, thrown) = inr (inr (inl (m.0, v, there, inr (inr (inl (refl, thrown))))))
  any_from (Named (ValueOf s)) x (v, there, c) = inr (inr (inl (s.method.0, v, there, inr (inr (inr (inl (s.pc, refl, c)))))))
  any_from (Named (CaughtAt m h)) x (v, there, c) = inr (inr (inl (m.0, v, there, inr (inr (inr (inr (h, refl, c)))))))
  any_from (Named (ExceptionOf s)) x c = inr (inr (inr (inl (s, refl, c))))
  any_from (Operand s i) x c = inr (inr (inr (inr (record { statement = s; operand = i }, refl, c))))

  pub entries_listed : (n k : ℕ) → AreNumbered (fields + length foreign) t.methods n → IsCounted n (numbers_of t.exceptions) k → IsCounted k (numbers_of t.operands) t.vars
      → Listed 0 t.vars Entry
  entries_listed n k methods exceptions operands =
      let F : Meaning → Var → Type 0 = λ a x. OfAll a x ⊎ (IsException a x ⊎ IsOperand a x) in
      let G : Meaning → Var → Type 0 = λ a x. IsException a x ⊎ IsOperand a x in
      listed_same 0 t.vars IsAny Entry any_to any_from
      (listed_join 0 fields t.vars IsField (λ a x. IsForeign a x ⊎ F a x)
      (listed_by (λ i. Named (StaticField (record { 0 = i }))) 0 fields fields (omega arith))
      (listed_join fields (fields + length foreign) t.vars IsForeign F
      (listed_list fields (fields + length foreign) (map (λ (nd : List ℕ × List ℕ). Named (StaticNamed nd.0 nd.1)) foreign)
      (omega (arith, length-map foreign (λ (nd : List ℕ × List ℕ). Named (StaticNamed nd.0 nd.1)))))
      (listed_join (fields + length foreign) n t.vars OfAll G (methods_listed (λ i. record { 0 = i }) t.methods (fields + length foreign) n methods)
      (listed_join n k t.vars IsException IsOperand
      (listed_table (λ s. Named (ExceptionOf s)) t.exceptions n k exceptions)
      (listed_table (λ (p : OperandPlace). Operand p.statement p.operand) t.operands k t.vars operands)))))

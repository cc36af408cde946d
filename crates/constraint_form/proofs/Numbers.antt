-- What the tables of a system of constraints say of numbers: each variable, field and call has one.
use Rattle.std.proofs.Common.{◌≡◌, ◌≢◌, ◌+◌, ◌-◌, ℕ, List, length, map, Option, Some, None, refl, sym, ap, subst, ◌∙◌, arith}
use Rattle.std.specs.Prelude.{slice_get, option_map}
use Rattle.std.proofs.lemmas.Option.{same_Some, slice_get_within, slice_get-map}
use Rattle.std.proofs.lemmas.List.Elements.{All-contains}
use Rattle.slicer_ids.specs.Order.{StatementBefore}
use Rattle.slicer_ids.specs.declared.ids.FieldId.{FieldId}
use Rattle.slicer_ids.specs.declared.ids.CallId.{CallId}
use Rattle.slicer_ids.specs.declared.ids.Statement.{Statement}
use Rattle.class_form.specs.Opcodes.{IsCall}
use Rattle.class_form.proofs.Indices.{index_in, there_at}
use Rattle.dep_form.specs.declared.rules.Var.{Var}
use Rattle.dep_form.specs.declared.call_site.CallSite.{CallSite}
use Rattle.dep_form.specs.declared.system.System.{System}
use Rattle.dep_form.specs.Constraints.{IsCallSite}
use Rattle.program_form.specs.Programs.{Program}
use Rattle.program_form.specs.Statements.{HasOpcode, NamesField}
use Rattle.program_form.specs.Facts.{Variable, FieldName, Named as NamedField, Elements, Length, State, field_name}
use Rattle.program_form.specs.Systems.{VariableNumber, FieldNumber, CallNumber}
use Rattle.constraint_form.specs.Variables.{Meaning, Named, Operand, StandsFor, AreVariables, IsVariable}
use Rattle.constraint_form.specs.ConstraintSystems.{AreCalls}
use Rattle.constraint_form.proofs.OnePlace.{one_place}
use Rattle.constraint_form.proofs.SiteNumbers.{statement_asym}

module _ (p : Program) (s : System) (names : List Meaning) (variables : AreVariables p s names) where
  same_meaning : (x : Var) (a b : Meaning) → StandsFor names x a → StandsFor names x b → a ≡ b
  same_meaning x a b e f = same_Some a b (sym e ∙ f)

  same_number : (x y : Var) (a : Meaning) → StandsFor names x a → StandsFor names y a → x ≡ y
  same_number x y a e f = ap (λ k. record { 0 = k }) (one_place (λ (a b : Meaning). a ≢ b) names variables.once (λ a n. n refl) x.0 y.0 a e f)

  -- a variable has one number, and a number is of one
  pub one_number : (v : Variable) (x y : Var) → VariableNumber p s v x → VariableNumber p s v y → x ≡ y
  one_number v x y a b = same_number x y (Named v) (variables.numbers v x a) (variables.numbers v y b)

  pub one_variable : (v w : Variable) (x : Var) → VariableNumber p s v x → VariableNumber p s w x → v ≡ w
  one_variable v w x a b = let e : Named v ≡ Named w = same_meaning x (Named v) (Named w) (variables.numbers v x a) (variables.numbers w x b) in cc

  -- .. or of one operand
  pub no_operand : (v : Variable) (x : Var) (t : Statement) (i : ℕ) → VariableNumber p s v x → StandsFor names x (Operand t i) → ⊥
  no_operand v x t i a b = let e : Named v ≡ Operand t i = same_meaning x (Named v) (Operand t i) (variables.numbers v x a) b in absurd (cc e)

  pub one_operand : (x : Var) (t u : Statement) (i j : ℕ) → StandsFor names x (Operand t i) → StandsFor names x (Operand u j) → (t ≡ u) × (i ≡ j)
  one_operand x t u i j a b = let e : Operand t i ≡ Operand u j = same_meaning x (Operand t i) (Operand u j) a b in (cc, cc)

  -- what has a number is a variable of the program
  pub is_variable : (v : Variable) (x : Var) → VariableNumber p s v x → IsVariable p v
  is_variable v x a = variables.named v (there_at names x.0 (Named v) (variables.numbers v x a))

-- fields
same_field : (a b : FieldId) → a.0 ≡ b.0 → a ≡ b
same_field a b e = ap (λ k. record { 0 = k }) e

module _ (s : System) where
  pub one_field_number : (f : FieldName) (a b : FieldId) → FieldNumber s f a → FieldNumber s f b → a ≡ b
  one_field_number (NamedField f) a b x y = x.0 ∙ sym y.0
  one_field_number Elements a b x y = x ∙ sym y
  one_field_number Length a b x y = x ∙ sym y
  one_field_number State a b x y = x ∙ sym y

  pub one_field : (f g : FieldName) (n : FieldId) → FieldNumber s f n → FieldNumber s g n → f ≡ g
  one_field (NamedField f) (NamedField g) n x y = ap (λ k. NamedField k) (sym x.0 ∙ y.0)
  one_field (NamedField f) Elements n x y = absurd (omega (arith, x.1, ap (λ (k : FieldId). k.0) (sym x.0 ∙ y)))
  one_field (NamedField f) Length n x y = absurd (omega (arith, x.1, ap (λ (k : FieldId). k.0) (sym x.0 ∙ y)))
  one_field (NamedField f) State n x y = absurd (omega (arith, x.1, ap (λ (k : FieldId). k.0) (sym x.0 ∙ y)))
  one_field Elements (NamedField f) n y x = absurd (omega (arith, x.1, ap (λ (k : FieldId). k.0) (sym x.0 ∙ y)))
  one_field Length (NamedField f) n y x = absurd (omega (arith, x.1, ap (λ (k : FieldId). k.0) (sym x.0 ∙ y)))
  one_field State (NamedField f) n y x = absurd (omega (arith, x.1, ap (λ (k : FieldId). k.0) (sym x.0 ∙ y)))
  one_field Elements Elements n x y = refl
  one_field Length Length n x y = refl
  one_field State State n x y = refl
  one_field Elements Length n x y = absurd (omega (arith, s.three_fields, ap (λ (k : FieldId). k.0) (sym x ∙ y)))
  one_field Elements State n x y = absurd (omega (arith, s.three_fields, ap (λ (k : FieldId). k.0) (sym x ∙ y)))
  one_field Length Elements n x y = absurd (omega (arith, s.three_fields, ap (λ (k : FieldId). k.0) (sym x ∙ y)))
  one_field Length State n x y = absurd (omega (arith, s.three_fields, ap (λ (k : FieldId). k.0) (sym x ∙ y)))
  one_field State Elements n x y = absurd (omega (arith, s.three_fields, ap (λ (k : FieldId). k.0) (sym x ∙ y)))
  one_field State Length n x y = absurd (omega (arith, s.three_fields, ap (λ (k : FieldId). k.0) (sym x ∙ y)))

  -- the field that an instruction names has a number
  pub number_of_field : (p : Program) → s.fields ≡ length p.fields + 3 → (t : Statement) (f : Option FieldId) → NamesField p t f → (g : FieldId) × FieldNumber s (field_name f) g
  number_of_field p e t None n = (record { 0 = s.fields - 1 }, refl)
  number_of_field p e t (Some f) (key, d, n, found, at) = (f, (refl, omega (arith, e, slice_get_within p.fields f.0 d at)))

module _ (p : Program) (s : System) (names : List Meaning) (calls : AreCalls p s names) where
  listed_of : (t : Statement) (o : Option Statement) → option_map (λ (t : Statement). Some t) o ≡ Some (Some t) → o ≡ Some t
  listed_of t None e = absurd cc
  listed_of t (Some u) e = same_Some (Some u) (Some t) e

  called_at : (t : Statement) (c : CallId) → CallNumber s t c → slice_get calls.listed.0 c.0 ≡ Some t
  called_at t c (k, at, e) =
      let place : slice_get (map (λ (k : CallSite). k.place) s.calls) c.0 ≡ Some (Some t) = slice_get-map (λ (k : CallSite). k.place) s.calls c.0 ∙ ap (λ o. option_map (λ (k : CallSite). k.place) o) at ∙ ap (λ o. Some o) e in
      let there : slice_get (map (λ (t : Statement). Some t) calls.listed.0) c.0 ≡ Some (Some t) = subst (λ xs. slice_get xs c.0 ≡ Some (Some t)) calls.listed.2 place in
      listed_of t (slice_get calls.listed.0 c.0) (sym (slice_get-map (λ (t : Statement). Some t) calls.listed.0 c.0) ∙ there)

  -- a call is of one statement, a call, and has one number
  pub is_call : (t : Statement) (c : CallId) → CallNumber s t c → HasOpcode p t IsCall
  is_call t c n = All-contains (λ t. HasOpcode p t IsCall) calls.listed.0 t calls.listed.1.each (there_at calls.listed.0 c.0 t (called_at t c n))

  pub one_caller : (t u : Statement) (c : CallId) → CallNumber s t c → CallNumber s u c → t ≡ u
  one_caller t u c a b = same_Some t u (sym (called_at t c a) ∙ called_at u c b)

  pub one_call_number : (t : Statement) (c d : CallId) → CallNumber s t c → CallNumber s t d → c ≡ d
  one_call_number t c d a b =
      ap (λ k. record { 0 = k }) (one_place StatementBefore calls.listed.0 calls.listed.1.order (λ x u. statement_asym x x u u) c.0 d.0 t (called_at t c a) (called_at t d b))

  site_at : (t : Statement) (o : Option CallSite) → option_map (λ (k : CallSite). k.place) o ≡ Some (Some t) → (k : CallSite) × (o ≡ Some k) × (k.place ≡ Some t)
  site_at t None e = absurd cc
  site_at t (Some k) e = (k, refl, same_Some k.place (Some t) e)

  pub number_of_call : (t : Statement) → HasOpcode p t IsCall → (c : CallId) × CallNumber s t c
  number_of_call t o =
      let at = index_in calls.listed.0 t (calls.listed.1.whole t o) in
      let there : slice_get (map (λ (t : Statement). Some t) calls.listed.0) at.0 ≡ Some (Some t) = slice_get-map (λ (t : Statement). Some t) calls.listed.0 at.0 ∙ ap (λ o. option_map (λ (t : Statement). Some t) o) at.1 in
      let place : slice_get (map (λ (k : CallSite). k.place) s.calls) at.0 ≡ Some (Some t) = subst (λ xs. slice_get xs at.0 ≡ Some (Some t)) (sym calls.listed.2) there in
      let k = site_at t (slice_get s.calls at.0) (sym (slice_get-map (λ (k : CallSite). k.place) s.calls at.0) ∙ place) in
      (record { 0 = at.0 }, (k.0, k.1, k.2))

  pub one_call_site : (c : CallId) (k l : CallSite) → IsCallSite s c k → IsCallSite s c l → k ≡ l
  one_call_site c k l a b = same_Some k l (sym a ∙ b)

  -- each call of the system has a place
  pub placed : (c : CallId) (k : CallSite) → IsCallSite s c k → (t : Statement) × (k.place ≡ Some t)
  placed c k is =
      let place : slice_get (map (λ (k : CallSite). k.place) s.calls) c.0 ≡ Some k.place = slice_get-map (λ (k : CallSite). k.place) s.calls c.0 ∙ ap (λ o. option_map (λ (k : CallSite). k.place) o) is in
      let there : slice_get (map (λ (t : Statement). Some t) calls.listed.0) c.0 ≡ Some k.place = subst (λ xs. slice_get xs c.0 ≡ Some k.place) calls.listed.2 place in
      some_place k.place (slice_get calls.listed.0 c.0) (sym (slice_get-map (λ (t : Statement). Some t) calls.listed.0 c.0) ∙ there)
    where
      some_place : (q : Option Statement) (o : Option Statement) → option_map (λ (t : Statement). Some t) o ≡ Some q → (t : Statement) × (q ≡ Some t)
      some_place q None e = absurd cc
      some_place q (Some t) e = (t, sym (same_Some (Some t) q e))

-- Sites, fields and static variables have one number each.
use Rattle.std.proofs.Common.{◌≡◌, ℕ, List, Some, inl, inr, refl, sym, ap, subst, ◌∙◌, arith}
use Rattle.std.specs.Prelude.{slice_get}
use Rattle.slicer_ids.specs.Order.{StatementBefore, BytesBefore}
use Rattle.slicer_ids.specs.declared.ids.MethodId.{MethodId}
use Rattle.slicer_ids.specs.declared.ids.SiteId.{SiteId}
use Rattle.slicer_ids.specs.declared.ids.FieldId.{FieldId}
use Rattle.slicer_ids.specs.declared.ids.Statement.{Statement}
use Rattle.slicer_ids.proofs.Texts.{bytes_asym}
use Rattle.class_form.specs.declared.types.FieldType.{FieldType}
use Rattle.class_form.proofs.Indices.{one_list}
use Rattle.dep_form.specs.declared.rules.Var.{Var}
use Rattle.dep_form.specs.declared.system.System.{System}
use Rattle.dep_form.specs.Constraints.{elements_field, length_field, state_field}
use Rattle.program_form.specs.Programs.{Program}
use Rattle.program_form.specs.Sites.{Site, Made, OfRoot, HasType, SiteBefore}
use Rattle.program_form.specs.Facts.{Variable, StaticField, StaticNamed, FieldName, Named, Elements, Length, State, IsStaticVariable}
use Rattle.program_form.specs.Systems.{SiteNumber, FieldNumber, VariableNumber, of_field, of_foreign, IsForeignStatic, ForeignBefore}
use Rattle.program_code.proofs.OneInstruction.{one_index}

-- ORDERS

statement_asym : (s t : Statement) → StatementBefore s t → StatementBefore t s → ⊥
statement_asym s t (inl a) (inl b) = absurd (omega (arith, a, b))
statement_asym s t (inl a) (inr b) = absurd (omega (arith, a, ap (λ (m : MethodId). m.0) b.0))
statement_asym s t (inr a) (inl b) = absurd (omega (arith, b, ap (λ (m : MethodId). m.0) a.0))
statement_asym s t (inr a) (inr b) = absurd (omega (arith, a.1, b.1))

site_asym : (a b : Site) → SiteBefore a b → SiteBefore b a → ⊥
site_asym (Made s k) (Made t j) (inl x) (inl y) = statement_asym s t x y
site_asym (Made s k) (Made t j) (inl x) (inr y) = let z = subst (λ u. StatementBefore s u) y.0 x in statement_asym s s z z
site_asym (Made s k) (Made t j) (inr x) (inl y) = let z = subst (λ u. StatementBefore t u) x.0 y in statement_asym t t z z
site_asym (Made s k) (Made t j) (inr x) (inr y) = absurd (omega (arith, x.1, y.1))
site_asym (Made s k) (OfRoot j) x y = y
site_asym (OfRoot k) (Made t j) x y = x
site_asym (OfRoot k) (OfRoot j) x y = absurd (omega (arith, x, y))

foreign_asym : (a b : List ℕ × List ℕ) → ForeignBefore a b → ForeignBefore b a → ⊥
foreign_asym a b (inl x) (inl y) = bytes_asym a.0 b.0 x y
foreign_asym a b (inl x) (inr y) = let z = subst (λ u. BytesBefore a.0 u) y.0 x in bytes_asym a.0 a.0 z z
foreign_asym a b (inr x) (inl y) = let z = subst (λ u. BytesBefore b.0 u) x.0 y in bytes_asym b.0 b.0 z z
foreign_asym a b (inr x) (inr y) = bytes_asym a.1 b.1 x.1 y.1

-- SITES

same_site : (a b : ℕ) → a ≡ b → (let n : SiteId = record { 0 = a } in n) ≡ record { 0 = b }
same_site a b e = rw e refl

pub one_number : (p : Program) (n k : SiteId) (h : Site) → SiteNumber p n h → SiteNumber p k h → n ≡ k
one_number p n k h x y =
    let e = one_list SiteBefore (λ g. (t : FieldType) × HasType p g t) site_asym x.0 y.0 x.1 y.1 in
    same_site n.0 k.0 (one_index SiteBefore y.0 h n.0 k.0 y.1.order (λ l. site_asym h h l l) (subst (λ hs. slice_get hs n.0 ≡ Some h) e x.2) y.2)

-- FIELDS

number_of : (f g : FieldId) → f ≡ g → f.0 ≡ g.0
number_of f g e = ap (λ (x : FieldId). x.0) e

module _ (s : System) where
  pub one_field_number : (f : FieldName) (g h : FieldId) → FieldNumber s f g → FieldNumber s f h → g ≡ h
  one_field_number (Named a) g h x y = x.0 ∙ sym y.0
  one_field_number Elements g h x y = x ∙ sym y
  one_field_number Length g h x y = x ∙ sym y
  one_field_number State g h x y = x ∙ sym y

  pub elements_named : (f : FieldName) → FieldNumber s f (elements_field s) → f ≡ Elements
  elements_named (Named a) x = absurd (omega (arith, s.three_fields, number_of _ _ x.0, x.1))
  elements_named Elements x = refl
  elements_named Length x = absurd (omega (arith, s.three_fields, number_of _ _ x))
  elements_named State x = absurd (omega (arith, s.three_fields, number_of _ _ x))

  pub length_named : (f : FieldName) → FieldNumber s f (length_field s) → f ≡ Length
  length_named (Named a) x = absurd (omega (arith, s.three_fields, number_of _ _ x.0, x.1))
  length_named Elements x = absurd (omega (arith, s.three_fields, number_of _ _ x))
  length_named Length x = refl
  length_named State x = absurd (omega (arith, s.three_fields, number_of _ _ x))

  pub state_named : (f : FieldName) → FieldNumber s f (state_field s) → f ≡ State
  state_named (Named a) x = absurd (omega (arith, s.three_fields, number_of _ _ x.0, x.1))
  state_named Elements x = absurd (omega (arith, s.three_fields, number_of _ _ x))
  state_named Length x = absurd (omega (arith, s.three_fields, number_of _ _ x))
  state_named State x = refl

-- STATIC VARIABLES

same_var : (x y : Var) → x.0 ≡ y.0 → x ≡ y
same_var x y e = by_number x.0 y.0 e
  where
    by_number : (a b : ℕ) → a ≡ b → (let v : Var = record { 0 = a } in v) ≡ record { 0 = b }
    by_number a b e = rw e refl

module _ (p : Program) (s : System) where
  by_field : (f : FieldId) (x y : Var) → VariableNumber p s (StaticField f) x → VariableNumber p s (StaticField f) y → x ≡ y
  by_field f x y (of_field a e) (of_field b d) = same_var x y (e ∙ sym d)

  by_name : (name descriptor : List ℕ) (x y : Var) → VariableNumber p s (StaticNamed name descriptor) x → VariableNumber p s (StaticNamed name descriptor) y → x ≡ y
  by_name name descriptor x y (of_foreign {ns} i order at e) (of_foreign {ns = ms} j order' at' e') =
      let lists = one_list ForeignBefore (IsForeignStatic p) foreign_asym ns ms order order' in
      let index = one_index ForeignBefore ms (name, descriptor) i j order'.order (λ l. foreign_asym (name, descriptor) (name, descriptor) l l) (subst (λ zs. slice_get zs i ≡ Some (name, descriptor)) lists at) at' in
      same_var x y (omega (arith, e, e', index))

  pub one_static : (t : Statement) (v : Variable) (x y : Var) → IsStaticVariable p t v → VariableNumber p s v x → VariableNumber p s v y → x ≡ y
  one_static t v x y (inl h) a b = by_field h.0 x y (subst (λ w. VariableNumber p s w x) h.2 a) (subst (λ w. VariableNumber p s w y) h.2 b)
  one_static t v x y (inr h) a b = by_name h.0.name h.0.descriptor x y (subst (λ w. VariableNumber p s w x) h.3 a) (subst (λ w. VariableNumber p s w y) h.3 b)

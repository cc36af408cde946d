-- A site makes arrays, or objects of one class.
use Rattle.std.proofs.Common.{◌≡◌, ◌⊎◌, ◌<◌, ◌-◌, ℕ, zero, suc, Bool, true, false, cond, eqb, List, [], ◌∷◌, ◌++◌, Some, refl, sym, ap, subst, ◌∙◌, inl, inr, ne_eqb, codes, arith}
use Rattle.std.specs.List.{flat_map}
use Rattle.std.proofs.lemmas.Option.{same_Some}
use Rattle.slicer_ids.specs.declared.ids.Statement.{Statement}
use Rattle.class_form.specs.Pools.{constant_at}
use Rattle.class_form.specs.Names.{IsClassName}
use Rattle.class_form.specs.Opcodes.{IsNew, IsConstant, IsCall, IsGetStatic, IsGetField}
use Rattle.class_form.specs.Types.{NamesType, spell_type, is_reference, IsFieldType}
use Rattle.class_form.specs.declared.class_file.ClassFile.{ClassFile}
use Rattle.class_form.specs.declared.body.Instr.{Instr}
use Rattle.class_form.specs.declared.types.FieldType.{FieldType}
use Rattle.class_form.specs.declared.types.BaseType.{BaseType}
use Rattle.class_form.specs.declared.types.BaseType.TheVariants.{Primitive, Class}
use Rattle.class_form.proofs.OneType.{one_field_type}
use Rattle.program_form.specs.Programs.{Program}
use Rattle.program_form.specs.Statements.{HasOpcode, NamesClass}
use Rattle.program_form.specs.Sites.{Site, Made, OfRoot, HasType, of_new, of_primitive_array, of_reference_array, of_dimension, of_constant, of_result, of_arguments, of_argument, ResultType, LoadsObject, class_of_constant, IsArraySite, IsObjectOf}
use Rattle.constraint_form.specs.Asked.{IsReadProgram}
use Rattle.constraint_form.proofs.Instructions.{one_at, apart, kind, one_class_file, one_class_name, one_call_type, one_type_at}

-- the name of a class begins with no `[`
no_bracket : (name rest : List ℕ) → IsClassName name → name ≡ 91 ∷ rest → ⊥
no_bracket name rest ([], others, first, more, e) begins = first.1 refl
no_bracket name rest (b ∷ bs, others, first, more, e) begins =
    let same : 91 ∷ rest ≡ b ∷ (bs ++ flat_map (λ part. 47 ∷ part) others) = sym begins ∙ e in
    let here : 91 ≡ b = cc in
    first.2.0.2 (sym here)

abbrev type_of : ℕ → BaseType → FieldType
type_of dims base = record { dims = dims; base = base }

second : {A : Type 0} (b : Bool) (x y z : A) → b ≡ false → z ≡ cond b x y → z ≡ y
second true x y z e h = absurd cc
second false x y z e h = h

-- the text is the name of the class, or the descriptor of the array
abbrev Spelled : List ℕ → FieldType → Type 0
Spelled text t =
    ((name : List ℕ) × IsClassName name × (t ≡ type_of 0 (Class name)) × (text ≡ name))
    ⊎ (IsFieldType text t × (rest : List ℕ) × (text ≡ 91 ∷ rest))

spelled : (text : List ℕ) (dims : ℕ) (base : BaseType) → NamesType text (type_of dims base) → Spelled text (type_of dims base)
spelled text zero (Class name) h = inl (name, h.0.0, refl, h.1)
spelled text zero (Primitive letter) h = absurd (elim h.2 [ inl k ↦ omega (arith, k) | inr k ↦ let e = k.1 in cc ])
spelled text (suc dims) base h =
    let far : eqb (suc dims) 0 ≡ false = ne_eqb (suc dims) 0 (λ e. absurd (omega (arith, e))) in
    let e : text ≡ spell_type (type_of (suc dims) base) = second (eqb (suc dims) 0) _ _ text far h.1 in
    inr ((h.0, e), spell_type (type_of dims base), e)

-- a text names one type
pub one_named : (text : List ℕ) (t u : FieldType) → NamesType text t → NamesType text u → t ≡ u
one_named text t u x y = alike (spelled text t.dims t.base x) (spelled text u.dims u.base y)
  where
    alike : Spelled text t → Spelled text u → t ≡ u
    alike (inl (n, c, e, is)) (inl (m, d, f, has)) = e ∙ ap (λ k. type_of 0 (Class k)) (sym is ∙ has) ∙ sym f
    alike (inl (n, c, e, is)) (inr (a, rest, begins)) = absurd (no_bracket n rest c (sym is ∙ begins))
    alike (inr (a, rest, begins)) (inl (m, d, f, has)) = absurd (no_bracket m rest d (sym has ∙ begins))
    alike (inr (a, r, b)) (inr (c, q, d)) = one_field_type text t u a c

abbrev IsArrayMaker : ℕ → Type 0
IsArrayMaker op = (op ≡ 188) ⊎ ((op ≡ 189) ⊎ (op ≡ 197))

abbrev IsReader : ℕ → Type 0
IsReader op = IsCall op ⊎ (IsGetStatic op ⊎ IsGetField op)

-- how a site that a statement makes comes by its type
data Kinded (p : Program) (s : Statement) (k : ℕ) (u : FieldType) : Type 0 where
  array : HasOpcode p s IsArrayMaker → 0 < u.dims → Kinded p s k u
  object : (text : List ℕ) → HasOpcode p s IsNew → NamesClass p s text → NamesType text u → Kinded p s k u
  constant : (name : List ℕ) → HasOpcode p s IsConstant → LoadsObject p s name → u ≡ type_of 0 (Class name) → Kinded p s k u
  result : (t : FieldType) → HasOpcode p s IsReader → ResultType p s t → u ≡ type_of (t.dims - k) t.base → is_reference u ≡ true → Kinded p s k u

module _ (p : Program) (asked : IsReadProgram p) where
  reader : (s : Statement) (t : FieldType) → ResultType p s t → HasOpcode p s IsReader
  reader s t (inl (m, c, e)) = kind p asked s IsCall IsReader (λ op h. inl h) c.0
  reader s t (inr (o, f)) = kind p asked s (λ op. IsGetStatic op ⊎ IsGetField op) IsReader (λ op h. inr h) o

  kinded : (s : Statement) (k : ℕ) (u : FieldType) → HasType p (Made s k) u → Kinded p s k u
  kinded s k u (of_new {text} o n t) = object text o n t
  kinded s k u (of_primitive_array o c e) = array (kind p asked s (λ op. op ≡ 188) IsArrayMaker (λ op h. inl h) o) (omega (arith, ap (λ (x : FieldType). x.dims) e))
  kinded s k u (of_reference_array o n t e) = array (kind p asked s (λ op. op ≡ 189) IsArrayMaker (λ op h. inr (inl h)) o) (omega (arith, ap (λ (x : FieldType). x.dims) e))
  kinded s k u (of_dimension {b} {i} {text} {t} at m n ty lt e) =
      array (b, i, at, inr (inr m)) (omega (arith, asked.dimensions s b i text t at m n ty, lt, ap (λ (x : FieldType). x.dims) e))
  kinded s k u (of_constant {name} o l e) = constant name o l e
  kinded s k u (of_result {t} r le e is) = result t (reader s t r) r e is

  one_loaded : (s : Statement) (x y : List ℕ) → LoadsObject p s x → LoadsObject p s y → x ≡ y
  one_loaded s x y (a, i, c, f, one, at, of, is, e) (b, j, d, g, two, there, from, has, h) =
      let same = one_at p asked s a b i j at there in
      let file = one_class_file p asked s.method c d f g of from in
      let constants : one ≡ two = same_Some one two (sym (subst (λ (z : Instr). constant_at g.pool z.index ≡ Some one) same.1 (subst (λ (z : ClassFile). constant_at z.pool i.index ≡ Some one) file.1 is)) ∙ has) in
      same_Some x y (sym (subst (λ z. class_of_constant z ≡ Some x) constants e) ∙ h)

  one_result : (s : Statement) (t u : FieldType) → ResultType p s t → ResultType p s u → t ≡ u
  one_result s t u (inl (m, c, e)) (inl (n, d, f)) = same_Some t u (sym (subst (λ z. z.result ≡ Some t) (one_call_type p asked s m n c d) e) ∙ f)
  one_result s t u (inr (o, f)) (inr (q, g)) = one_type_at p asked s t u f g
  one_result s t u (inl (m, c, e)) (inr (q, g)) =
      absurd (apart p asked s IsCall (λ op. IsGetStatic op ⊎ IsGetField op) (λ op i g. elim g [ inl a ↦ omega (arith, i.0, a) | inr a ↦ omega (arith, i.0, a) ]) c.0 q)
  one_result s t u (inr (o, f)) (inl (n, d, g)) =
      absurd (apart p asked s IsCall (λ op. IsGetStatic op ⊎ IsGetField op) (λ op i g. elim g [ inl a ↦ omega (arith, i.0, a) | inr a ↦ omega (arith, i.0, a) ]) d.0 o)

  -- two types of a site are of arrays, or they are one
  abbrev Agree : FieldType → FieldType → Type 0
  Agree t u = ((0 < t.dims) × (0 < u.dims)) ⊎ (t ≡ u)

  no_array_new : (op : ℕ) → IsArrayMaker op → IsNew op → ⊥
  no_array_new op (inl a) b = omega (arith, a, b)
  no_array_new op (inr (inl a)) b = omega (arith, a, b)
  no_array_new op (inr (inr a)) b = omega (arith, a, b)

  no_array_constant : (op : ℕ) → IsArrayMaker op → IsConstant op → ⊥
  no_array_constant op (inl a) b = omega (arith, a, b.1)
  no_array_constant op (inr (inl a)) b = omega (arith, a, b.1)
  no_array_constant op (inr (inr a)) b = omega (arith, a, b.1)

  no_array_reader : (op : ℕ) → IsArrayMaker op → IsReader op → ⊥
  no_array_reader op (inl a) (inl b) = omega (arith, a, b.1)
  no_array_reader op (inl a) (inr (inl b)) = omega (arith, a, b)
  no_array_reader op (inl a) (inr (inr b)) = omega (arith, a, b)
  no_array_reader op (inr (inl a)) (inl b) = omega (arith, a, b.1)
  no_array_reader op (inr (inl a)) (inr (inl b)) = omega (arith, a, b)
  no_array_reader op (inr (inl a)) (inr (inr b)) = omega (arith, a, b)
  no_array_reader op (inr (inr a)) (inl b) = omega (arith, a, b.1)
  no_array_reader op (inr (inr a)) (inr (inl b)) = omega (arith, a, b)
  no_array_reader op (inr (inr a)) (inr (inr b)) = omega (arith, a, b)

  no_new_constant : (op : ℕ) → IsNew op → IsConstant op → ⊥
  no_new_constant op a b = omega (arith, a, b.1)

  no_new_reader : (op : ℕ) → IsNew op → IsReader op → ⊥
  no_new_reader op a (inl b) = omega (arith, a, b.1)
  no_new_reader op a (inr (inl b)) = omega (arith, a, b)
  no_new_reader op a (inr (inr b)) = omega (arith, a, b)

  no_constant_reader : (op : ℕ) → IsConstant op → IsReader op → ⊥
  no_constant_reader op a (inl b) = omega (arith, a.1, b.0)
  no_constant_reader op a (inr (inl b)) = omega (arith, a.1, b)
  no_constant_reader op a (inr (inr b)) = omega (arith, a.1, b)

  agree_made : (s : Statement) (k : ℕ) (t u : FieldType) → Kinded p s k t → Kinded p s k u → Agree t u
  agree_made s k t u (array o x) (array q y) = inl (x, y)
  agree_made s k t u (object text o n ty) (object other q m tz) = inr (one_named other t u (subst (λ z. NamesType z t) (one_class_name p asked s text other n m) ty) tz)
  agree_made s k t u (constant x o l e) (constant y q m f) = inr (e ∙ ap (λ z. type_of 0 (Class z)) (one_loaded s x y l m) ∙ sym f)
  agree_made s k t u (result x o r e is) (result y q w f has) = inr (e ∙ ap (λ (z : FieldType). type_of (z.dims - k) z.base) (one_result s x y r w) ∙ sym f)
  agree_made s k t u (array o x) (object text q n ty) = absurd (apart p asked s IsArrayMaker IsNew no_array_new o q)
  agree_made s k t u (array o x) (constant y q m f) = absurd (apart p asked s IsArrayMaker IsConstant no_array_constant o q)
  agree_made s k t u (array o x) (result y q w f has) = absurd (apart p asked s IsArrayMaker IsReader no_array_reader o q)
  agree_made s k t u (object text q n ty) (array o x) = absurd (apart p asked s IsArrayMaker IsNew no_array_new o q)
  agree_made s k t u (constant y q m f) (array o x) = absurd (apart p asked s IsArrayMaker IsConstant no_array_constant o q)
  agree_made s k t u (result y q w f has) (array o x) = absurd (apart p asked s IsArrayMaker IsReader no_array_reader o q)
  agree_made s k t u (object text o n ty) (constant y q m f) = absurd (apart p asked s IsNew IsConstant no_new_constant o q)
  agree_made s k t u (object text o n ty) (result y q w f has) = absurd (apart p asked s IsNew IsReader no_new_reader o q)
  agree_made s k t u (constant y q m f) (object text o n ty) = absurd (apart p asked s IsNew IsConstant no_new_constant o q)
  agree_made s k t u (result y q w f has) (object text o n ty) = absurd (apart p asked s IsNew IsReader no_new_reader o q)
  agree_made s k t u (constant x o l e) (result y q w f has) = absurd (apart p asked s IsConstant IsReader no_constant_reader o q)
  agree_made s k t u (result y q w f has) (constant x o l e) = absurd (apart p asked s IsConstant IsReader no_constant_reader o q)

  agree : (h : Site) (t u : FieldType) → HasType p h t → HasType p h u → Agree t u
  agree (Made s k) t u x y = agree_made s k t u (kinded s k t x) (kinded s k u y)
  agree (OfRoot zero) t u (of_arguments e) (of_arguments f) = inr (e ∙ sym f)
  agree (OfRoot (suc zero)) t u (of_argument e) (of_argument f) = inr (e ∙ sym f)
  agree (OfRoot (suc (suc k))) t u x y = elim x [ ]

  -- a site makes arrays or objects
  abbrev IsReferenceType : FieldType → Type 0
  IsReferenceType t = (0 < t.dims) ⊎ ((name : List ℕ) × (t.dims ≡ 0) × (t.base ≡ Class name))

  referenced : (dims : ℕ) (base : BaseType) → is_reference (type_of dims base) ≡ true → IsReferenceType (type_of dims base)
  referenced (suc dims) base e = inl (omega arith)
  referenced zero (Class name) e = inr (name, refl, refl)
  referenced zero (Primitive letter) e = absurd cc

  named_reference : (text : List ℕ) (dims : ℕ) (base : BaseType) → NamesType text (type_of dims base) → IsReferenceType (type_of dims base)
  named_reference text (suc dims) base h = inl (omega arith)
  named_reference text zero base h = elim h.2 [ inl lt ↦ inl lt | inr c ↦ inr (c.0, refl, c.1) ]

  reference : (s : Statement) (k : ℕ) (t : FieldType) → Kinded p s k t → IsReferenceType t
  reference s k t (array o lt) = inl lt
  reference s k t (object text o n ty) = named_reference text t.dims t.base ty
  reference s k t (constant name o l e) = inr (name, ap (λ (x : FieldType). x.dims) e, ap (λ (x : FieldType). x.base) e)
  reference s k t (result u o r e is) = referenced t.dims t.base is

  abbrev ArrayOrObject : Site → Type 0
  ArrayOrObject h = IsArraySite p h ⊎ ((name : List ℕ) × IsObjectOf p h name)

  either : (h : Site) (t : FieldType) → HasType p h t → IsReferenceType t → ArrayOrObject h
  either h t y (inl lt) = inl (t, y, lt)
  either h t y (inr (name, e, c)) = inr (name, (t, y, e, c))

  pub array_or_object : (h : Site) (t : FieldType) → HasType p h t → ArrayOrObject h
  array_or_object (Made s k) t y = either (Made s k) t y (reference s k t (kinded s k t y))
  array_or_object (OfRoot zero) t (of_arguments e) = either (OfRoot 0) t (of_arguments e) (inl (omega (arith, ap (λ (x : FieldType). x.dims) e)))
  array_or_object (OfRoot (suc zero)) t (of_argument e) =
      either (OfRoot 1) t (of_argument e) (inr (codes "java/lang/String", ap (λ (x : FieldType). x.dims) e, ap (λ (x : FieldType). x.base) e))
  array_or_object (OfRoot (suc (suc k))) t y = elim y [ ]

  -- no site makes arrays and objects, and its objects are of one class
  pub no_array_object : (h : Site) (name : List ℕ) → IsArraySite p h → IsObjectOf p h name → ⊥
  no_array_object h name (t, x, lt) (u, y, e, c) = elim (agree h t u x y) [ inl a ↦ omega (arith, a.1, e) | inr same ↦ omega (arith, lt, e, ap (λ (z : FieldType). z.dims) same) ]

  pub one_object : (h : Site) (n m : List ℕ) → IsObjectOf p h n → IsObjectOf p h m → n ≡ m
  one_object h n m (t, x, e, c) (u, y, f, d) = elim (agree h t u x y) [
    | inl a ↦ absurd (omega (arith, a.1, f))
    | inr same ↦ let one : Class n ≡ Class m = sym c ∙ ap (λ (z : FieldType). z.base) same ∙ d in cc
  ]

-- an array has a type without its outer dimension only where it has one with it
array_reference : (t : FieldType) → 0 < t.dims → is_reference t ≡ true
array_reference t lt = grind arith

pub outer : (p : Program) (s : Statement) (k : ℕ) (u : FieldType) → HasType p (Made s (suc k)) u → (t : FieldType) × HasType p (Made s k) t
outer p s k u (of_dimension {t} at m n ty lt e) = (type_of (t.dims - k) t.base, of_dimension at m n ty (omega (arith, lt)) refl)
outer p s k u (of_result {t} r le e is) = (type_of (t.dims - k) t.base, of_result r (omega (arith, le)) refl (array_reference (type_of (t.dims - k) t.base) (omega (arith, le))))

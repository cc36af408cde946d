-- A site is either an array or an object of a class.
use Rattle.std.proofs.Common.{◌≡◌, ◌≢◌, ◌⊎◌, ◌<◌, ◌≤◌, ◌+◌, ◌-◌, ℕ, zero, suc, true, false, List, [], ◌∷◌, ◌++◌, length, replicate, take, Some, inl, inr, refl, sym, ap, subst, ◌∙◌, arith}
use Rattle.std.specs.Prelude.{nat_eq, nat_lt}
use Rattle.std.specs.List.{AllByRecursion, prefix_len}
use Rattle.std.proofs.lemmas.Bool.{false≢true, cases_lt}
use Rattle.std.proofs.lemmas.Bool.Decides.{nat_tests}
use Rattle.slicer_ids.specs.declared.ids.Statement.{Statement}
use Rattle.class_form.specs.Names.{IsPlainByte, IsClassName}
use Rattle.class_form.specs.Pools.{class_at}
use Rattle.class_form.specs.Types.{NamesType, IsBase, constant_text, spell_base, is_reference}
use Rattle.class_form.specs.Opcodes.{IsCall, IsGetStatic, IsGetField}
use Rattle.class_form.specs.Instructions.{Stands, HasNumbers, form_at, index_of, dims_of, brackets}
use Rattle.class_form.specs.declared.opcode.Form.{Form}
use Rattle.class_form.specs.declared.opcode.Form.TheVariants.{Dimensions}
use Rattle.class_form.specs.declared.pool.Pool.{Pool}
use Rattle.class_form.specs.declared.types.FieldType.{FieldType}
use Rattle.class_form.specs.declared.types.BaseType.{BaseType}
use Rattle.class_form.specs.declared.types.BaseType.TheVariants.{Primitive, Class as OfClass}
use Rattle.class_form.specs.declared.body.Body.{Body}
use Rattle.class_form.specs.declared.body.Instr.{Instr}
use Rattle.class_form.proofs.DescriptorsRead.{is_letter-Decides, letter_is}
use Rattle.program_form.specs.Programs.{Program, ClassOf}
use Rattle.program_form.specs.Statements.{IsAt, HasOpcode, NamesClass}
use Rattle.program_form.specs.Sites.{Site, Made, OfRoot, HasType, of_new, of_primitive_array, of_reference_array, of_dimension, of_constant, of_result, of_arguments, of_argument, ResultType}
use Rattle.program_code.specs.Codes.{IsProgramOfCode}
use Rattle.program_code.proofs.OneInstruction.{coded_body, stands, one_opcode}
use Rattle.program_code.proofs.Naming.{one_text, one_result}

-- THE BRACKETS OF A TEXT

stops : (x : ℕ) (xs : List ℕ) → x ≢ 91 → brackets (x ∷ xs) ≡ 0
stops x xs h = let e : nat_eq x 91 ≡ false = grind (arith, nat_tests) in rw e refl

no_brackets : (name : List ℕ) → IsClassName name → brackets name ≡ 0
no_brackets name h = subst (λ (x : List ℕ). brackets x ≡ 0) (sym h.4) (none h.0 _ h.2.1 h.2.2)
  where
    none : (xs ys : List ℕ) → xs ≢ [] → AllByRecursion IsPlainByte xs → brackets (xs ++ ys) ≡ 0
    none [] ys some all = absurd (some refl)
    none (x ∷ xs) ys some all = stops x (xs ++ ys) all.0.2

one_more : (n : ℕ) (ys : List ℕ) → length (take (1 + n) (91 ∷ ys)) ≡ suc (length (take n ys))
one_more n ys = let e : 1 + n ≡ suc n = omega arith in rw e refl

brackets_more : (ys : List ℕ) → brackets (91 ∷ ys) ≡ suc (brackets ys)
brackets_more ys = one_more (prefix_len (λ b. nat_eq b 91) ys) ys

of_spelled : (n : ℕ) (b : BaseType) → IsBase b → brackets (replicate n 91 ++ spell_base b) ≡ n
of_spelled zero (Primitive x) h = let l = letter_is x ((is_letter-Decides x).1 h) in stops x [] (omega (arith, l))
of_spelled zero (OfClass name) h = refl
of_spelled (suc n) b h = brackets_more (replicate n 91 ++ spell_base b) ∙ ap (λ (m : ℕ). suc m) (of_spelled n b h)

-- a text has as many brackets as its type has dimensions
pub brackets_are : (text : List ℕ) (t : FieldType) → NamesType text t → brackets text ≡ t.dims
brackets_are text t h = subst (λ (x : List ℕ). brackets x ≡ t.dims) (sym h.1) (by_parts t.dims t.base h.0.0 h.2)
  where
    by_parts : (n : ℕ) (b : BaseType) → IsBase b → (0 < n) ⊎ ((name : List ℕ) × (b ≡ OfClass name)) → brackets (constant_text (record { dims = n; base = b })) ≡ n
    by_parts zero (Primitive x) k (inl lt) = absurd (omega arith)
    by_parts zero (Primitive x) k (inr e) = absurd (cc e.1)
    by_parts zero (OfClass name) k any = no_brackets name k
    by_parts (suc n) b k any = let e : nat_eq (suc n) 0 ≡ false = grind (arith, nat_tests) in rw e (of_spelled (suc n) b k)

-- THE DIMENSIONS OF AN ARRAY OF ARRAYS

few_dimensions : (code : List ℕ) (pool : Pool) (pc k : ℕ) (form : Form) → HasNumbers code pool pc form → k < dims_of code pc form
    → (text : List ℕ) × (class_at pool (index_of code pc form) ≡ Some text) × (k < brackets text)
few_dimensions code pool pc k Dimensions h lt = (h.1, h.2, omega (arith, h.3, lt))
few_dimensions code pool pc k form h lt = absurd (omega (arith, lt))

module _ (p : Program) (coded : IsProgramOfCode p) where
  pub some_left : (s : Statement) (b : Body) (i : Instr) (text : List ℕ) (t : FieldType) (k : ℕ) → IsAt p s b i → NamesClass p s text → NamesType text t → k < i.dims → k < t.dims
  some_left s b i text t k at names is lt =
      let c = coded_body p coded b at.0 in
      let st : Stands c.code.code c.class.pool i.pc i = stands c.code.code c.class.pool 0 b.instrs (length c.code.code) i c.is.instrs at.2 in
      let w = few_dimensions c.code.code c.class.pool i.pc k (form_at c.code.code i.pc) st.passes.1.1.1.1.1.1.0 (subst (λ n. k < n) st.dims lt) in
      let class : ClassOf p s.method c.number c.class = subst (λ m. ClassOf p m c.number c.class) at.1 c.of_class in
      let named : NamesClass p s w.0 = (b, i, c.number, c.class, at, class, ap (λ n. class_at c.class.pool n) st.index ∙ w.1) in
      let same = one_text p coded s w.0 text named names in
      omega (arith, w.2, ap brackets same, brackets_are text t is)

-- WHAT MAKES A SITE

reference_is : (n : ℕ) (b : BaseType) → is_reference (record { dims = n; base = b }) ≡ true → (0 < n) ⊎ ((n ≡ 0) × (name : List ℕ) × (b ≡ OfClass name))
reference_is zero (Primitive x) e = absurd (false≢true e)
reference_is zero (OfClass name) e = inr (refl, name, refl)
reference_is (suc n) b e = inl (omega arith)

-- an array is a reference
array_is_reference : (n : ℕ) (b : BaseType) → 0 < n → is_reference (record { dims = n; base = b }) ≡ true
array_is_reference n b lt = let e : nat_lt 0 n ≡ true = grind (arith, nat_tests) in rw e refl

-- fewer dimensions of a reference are of one
outer_is_reference : (n k : ℕ) (b : BaseType) → k ≤ n → is_reference (record { dims = n - k; base = b }) ≡ true → is_reference (record { dims = n; base = b }) ≡ true
outer_is_reference n k b le e = elim (cases_lt 0 n) [
  | inl lt ↦ array_is_reference n b lt
  | inr none ↦ let same : n - k ≡ n = omega (arith, none) in subst (λ m. is_reference (record { dims = m; base = b }) ≡ true) same e
]

-- the statement makes sites of the type by its opcode
data Maker (p : Program) (s : Statement) (k : ℕ) (t : FieldType) : ℕ → Type 0 where
  by_new : {op : ℕ} → op ≡ 187 → (text : List ℕ) → NamesClass p s text → NamesType text t → Maker p s k t op
  by_array : {op : ℕ} → 188 ≤ op → 0 < t.dims → Maker p s k t op
  by_constant : {op : ℕ} → op ≤ 19 → (name : List ℕ) → t ≡ record { dims = 0; base = OfClass name } → Maker p s k t op
  by_result : {op : ℕ} → 178 ≤ op → op ≤ 186 → (u : FieldType) → ResultType p s u → k ≤ u.dims → t ≡ record { dims = u.dims - k; base = u.base } →
      is_reference t ≡ true → Maker p s k t op

abbrev IsOp : Program → Statement → ℕ → Type 0
IsOp p s op = HasOpcode p s (λ o. o ≡ op)

module _ (p : Program) (coded : IsProgramOfCode p) where
  result_op : (s : Statement) (u : FieldType) → ResultType p s u → (op : ℕ) × IsOp p s op × (178 ≤ op) × (op ≤ 186)
  result_op s u (inl h) = let o = h.1.0 in (o.1.op, (o.0, o.1, o.2, refl), omega (arith, o.3), omega (arith, o.3))
  result_op s u (inr h) = let o = h.0 in let r = reads o.1.op o.3 in (o.1.op, (o.0, o.1, o.2, refl), r.0, r.1)
    where
      reads : (op : ℕ) → IsGetStatic op ⊎ IsGetField op → (178 ≤ op) × (op ≤ 186)
      reads op (inl e) = (omega arith, omega arith)
      reads op (inr e) = (omega arith, omega arith)

  maker : (s : Statement) (k : ℕ) (t : FieldType) → HasType p (Made s k) t → (op : ℕ) × IsOp p s op × Maker p s k t op
  maker s k t (of_new {text} o names is) = (o.1.op, (o.0, o.1, o.2, refl), by_new o.3 text names is)
  maker s k t (of_primitive_array o code e) = (o.1.op, (o.0, o.1, o.2, refl), by_array (omega (arith, o.3)) (omega (arith, ap (λ (u : FieldType). u.dims) e)))
  maker s k t (of_reference_array o names is e) = (o.1.op, (o.0, o.1, o.2, refl), by_array (omega (arith, o.3)) (omega (arith, ap (λ (u : FieldType). u.dims) e)))
  maker s k t (of_dimension {b = b} {i = i} {text = text} {t = u} at op names is lt e) =
      (i.op, (b, i, at, refl), by_array (omega (arith, op)) (omega (arith, ap (λ (v : FieldType). v.dims) e, some_left p coded s b i text u k at names is lt)))
  maker s k t (of_constant {name = name} o loads e) = (o.1.op, (o.0, o.1, o.2, refl), by_constant (omega (arith, o.3)) name e)
  maker s k t (of_result {t = u} r le e is) = let o = result_op s u r in (o.0, o.1, by_result o.2 o.3 u r le e is)

  clash : (s : Statement) (k op : ℕ) (t u : FieldType) → Maker p s k t op → Maker p s k u op → t.dims ≡ 0 → 0 < u.dims → ⊥
  clash s k op t u (by_new e x nx x_is) (by_new f y ny y_is) none some =
      let same = ap brackets (one_text p coded s x y nx ny) in
      absurd (omega (arith, none, some, same, brackets_are x t x_is, brackets_are y u y_is))
  clash s k op t u (by_new e x nx x_is) (by_array f lt) none some = absurd (omega (arith, e, f))
  clash s k op t u (by_new e x nx x_is) (by_constant f name v) none some = absurd (omega (arith, e, f))
  clash s k op t u (by_new e x nx x_is) (by_result f g v r le w is) none some = absurd (omega (arith, e, g))
  clash s k op t u (by_array e lt) other none some = absurd (omega (arith, none, lt))
  clash s k op t u (by_constant e name v) (by_new f y ny y_is) none some = absurd (omega (arith, e, f))
  clash s k op t u (by_constant e name v) (by_array f lt) none some = absurd (omega (arith, e, f))
  clash s k op t u (by_constant e name v) (by_constant f other w) none some = absurd (omega (arith, some, ap (λ (x : FieldType). x.dims) w))
  clash s k op t u (by_constant e name v) (by_result f g w r le x is) none some = absurd (omega (arith, e, f))
  clash s k op t u (by_result e g v r le w is) (by_new f y ny y_is) none some = absurd (omega (arith, f, g))
  clash s k op t u (by_result e g v r le w is) (by_array f lt) none some = absurd (omega (arith, f, g))
  clash s k op t u (by_result e g v r le w is) (by_constant f name x) none some = absurd (omega (arith, e, f))
  clash s k op t u (by_result e g v r le w is) (by_result e' g' v' r' le' w' is') none some =
      let same = ap (λ (x : FieldType). x.dims) (one_result p coded s v v' r r') in
      absurd (omega (arith, none, some, same, ap (λ (x : FieldType). x.dims) w, ap (λ (x : FieldType). x.dims) w'))

  root_dims : (k : ℕ) (t : FieldType) → HasType p (OfRoot k) t → k + t.dims ≡ 1
  root_dims k t (of_arguments e) = omega (arith, ap (λ (x : FieldType). x.dims) e)
  root_dims k t (of_argument e) = omega (arith, ap (λ (x : FieldType). x.dims) e)

  -- a site that is no array isn't one by another type
  pub one_kind : (h : Site) (t u : FieldType) → HasType p h t → HasType p h u → t.dims ≡ 0 → 0 < u.dims → ⊥
  one_kind (Made s k) t u x y none some =
      let a = maker s k t x in
      let b = maker s k u y in
      let o = one_opcode p coded s _ _ a.1 b.1 in
      clash s k o.0 t u (subst (Maker p s k t) (sym o.1) a.2) (subst (Maker p s k u) (sym o.2) b.2) none some
  one_kind (OfRoot k) t u x y none some = absurd (omega (arith, none, some, root_dims k t x, root_dims k u y))

  array_or_object : (s : Statement) (k op : ℕ) (t : FieldType) → Maker p s k t op → (0 < t.dims) ⊎ ((t.dims ≡ 0) × (name : List ℕ) × (t.base ≡ OfClass name))
  array_or_object s k op t (by_new e text names is) = elim is.2 [
    | inl lt ↦ inl lt
    | inr class ↦ elim (cases_lt 0 t.dims) [
      | inl lt ↦ inl lt
      | inr none ↦ inr (omega (arith, none), class.0, class.1)
    ]
  ]
  array_or_object s k op t (by_array e lt) = inl lt
  array_or_object s k op t (by_constant e name v) = inr (ap (λ (x : FieldType). x.dims) v, name, ap (λ (x : FieldType). x.base) v)
  array_or_object s k op t (by_result e f u r le w is) = reference_is t.dims t.base is

  -- a site is an array, or an object of a class
  pub kinds_of_sites : (h : Site) (t : FieldType) → HasType p h t → (0 < t.dims) ⊎ ((t.dims ≡ 0) × (name : List ℕ) × (t.base ≡ OfClass name))
  kinds_of_sites (Made s k) t x = let a = maker s k t x in array_or_object s k a.0 t a.2
  kinds_of_sites (OfRoot k) t (of_arguments e) = inl (omega (arith, ap (λ (x : FieldType). x.dims) e))
  kinds_of_sites (OfRoot k) t (of_argument e) = inr (ap (λ (x : FieldType). x.dims) e, _, ap (λ (x : FieldType). x.base) e)

  -- where a call makes a site, it makes a first one
  pub first_fresh : (s : Statement) (k : ℕ) (t : FieldType) → HasOpcode p s IsCall → HasType p (Made s k) t → (u : FieldType) × HasType p (Made s 0) u
  first_fresh s k t call x =
      let a = maker s k t x in
      let o = one_opcode p coded s _ _ call a.1 in
      by_maker a.0 t a.2 (subst IsCall o.2 o.1)
    where
      by_maker : (op : ℕ) (t : FieldType) → Maker p s k t op → IsCall op → (u : FieldType) × HasType p (Made s 0) u
      by_maker op t (by_new e text names is) c = absurd (omega (arith, e, c))
      by_maker op t (by_array e lt) c = absurd (omega (arith, e, c))
      by_maker op t (by_constant e name v) c = absurd (omega (arith, e, c))
      by_maker op t (by_result e f u r le w is) c =
          let outer = outer_is_reference u.dims k u.base le (subst (λ (x : FieldType). is_reference x ≡ true) w is) in
          (u, of_result r (omega arith) (ap (λ n. record { dims = n; base = u.base }) (omega arith)) outer)

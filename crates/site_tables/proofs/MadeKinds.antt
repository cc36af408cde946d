-- What the instruction at a statement makes.
use Rattle.std.proofs.Common.{◌≡◌, ◌⊎◌, ◌<◌, ◌≤◌, ◌+◌, ◌-◌, ℕ, zero, suc, true, List, Option, Some, None, refl, sym, ap, subst, ◌∙◌, inl, inr, arith}
use Rattle.std.specs.Prelude.{option_and_then, nat_lt}
use Rattle.std.proofs.lemmas.Bool.{false≢true}
use Rattle.std.proofs.lemmas.Bool.Decides.{nat_tests}
use Rattle.std.proofs.lemmas.Option.{same_Some}
use Rattle.slicer_ids.specs.declared.ids.Statement.{Statement}
use Rattle.class_form.specs.Pools.{constant_at, class_at, descriptor_at}
use Rattle.class_form.specs.Opcodes.{IsNew, IsNewArray, IsMultiNewArray, IsConstant, IsCall, IsGetStatic, IsGetField}
use Rattle.class_form.specs.Types.{NamesType, IsArrayType, IsFieldType, IsMethodType, is_reference}
use Rattle.class_form.specs.declared.class_file.ClassFile.{ClassFile}
use Rattle.class_form.specs.declared.pool.Pool.{Pool}
use Rattle.class_form.specs.declared.pool.Constant.{Constant}
use Rattle.class_form.specs.declared.types.FieldType.{FieldType}
use Rattle.class_form.specs.declared.types.MethodType.{MethodType}
use Rattle.class_form.specs.declared.types.BaseType.{BaseType}
use Rattle.class_form.specs.declared.types.BaseType.TheVariants.{Primitive, Class}
use Rattle.class_form.specs.declared.body.Body.{Body}
use Rattle.class_form.specs.declared.body.Instr.{Instr}
use Rattle.program_form.specs.Programs.{Program, ClassOf}
use Rattle.program_form.specs.Statements.{IsAt, HasOpcode, NamesClass, NamesDescriptor}
use Rattle.program_form.specs.Sites.{Made, HasType, of_new, of_primitive_array, of_reference_array, of_dimension, of_constant, of_result, class_of_constant}
use Rattle.class_form.proofs.OneType.{one_field_type, one_method_type}
use Rattle.constraint_form.specs.Asked.{IsReadProgram}
use Rattle.constraint_form.proofs.Instructions.{one_at, one_class_file}
use Rattle.site_tables.specs.declared.fresh.Fresh.{Fresh}
use Rattle.site_tables.specs.Making.{class_in, class_name_of, objects_of, count_of, IsNothing, IsFresh, IsFreshOf, IsFirst, IsNewOf, IsNewAt, IsArrayOf, IsArrayAt, IsLoaded, IsOf, FieldIn, ResultIn, IsReader, IsMaker, AreMade}
use Rattle.site_tables.proofs.Spelling.{type_of, Named, named, one_named, array_named}
use Rattle.site_tables.proofs.Layers.{Layer, made_of, no_more}

reads : (op : ℕ) → IsReader op → (178 ≤ op) × (op ≤ 180)
reads op (inl e) = (omega (arith, e), omega (arith, e))
reads op (inr e) = (omega (arith, e), omega (arith, e))

-- the type of a site, by the instruction and the class file
data Kinded (i : Instr) (file : ClassFile) (k : ℕ) (u : FieldType) : Type 0 where
  made_object : IsNew i.op → k ≡ 0 → (text : List ℕ) → class_at file.pool i.index ≡ Some text → NamesType text u → Kinded i file k u
  made_array : IsNewArray i.op → k ≡ 0 → 0 < u.dims → Kinded i file k u
  made_dimension : IsMultiNewArray i.op → (text : List ℕ) → class_at file.pool i.index ≡ Some text → (t : FieldType) → NamesType text t → k < i.dims → i.dims ≤ t.dims →
      u ≡ type_of (t.dims - k) t.base → Kinded i file k u
  made_constant : IsConstant i.op → k ≡ 0 → (name : List ℕ) → option_and_then class_of_constant (constant_at file.pool i.index) ≡ Some name → u ≡ type_of 0 (Class name) → Kinded i file k u
  made_answer : IsCall i.op → (t : FieldType) → ResultIn file.pool i.index t → k ≤ t.dims → u ≡ type_of (t.dims - k) t.base → is_reference u ≡ true → Kinded i file k u
  made_reading : IsReader i.op → (t : FieldType) → FieldIn file.pool i.index t → k ≤ t.dims → u ≡ type_of (t.dims - k) t.base → is_reference u ≡ true → Kinded i file k u

loaded_class : (o : Option Constant) (c : Constant) (name : List ℕ) → o ≡ Some c → class_of_constant c ≡ Some name → option_and_then class_of_constant o ≡ Some name
loaded_class o c name e is = ap (λ x. option_and_then class_of_constant x) e ∙ is

loaded_constant : (o : Option Constant) (name : List ℕ) → option_and_then class_of_constant o ≡ Some name → (c : Constant) × (o ≡ Some c) × (class_of_constant c ≡ Some name)
loaded_constant None name e = let f : None ≡ Some name = e in absurd (cc f)
loaded_constant (Some c) name e = (c, refl, e)

-- a reference type of a site is an array, or a class
reference_is : (dims k : ℕ) (base : BaseType) → k ≤ dims → is_reference (type_of (dims - k) base) ≡ true → (k < dims) ⊎ ((k ≡ dims) × ((name : List ℕ) × (base ≡ Class name)))
reference_is dims k base le e = by_rest (dims - k) base refl e
  where
    by_rest : (n : ℕ) (b : BaseType) → n ≡ dims - k → is_reference (type_of n b) ≡ true → (k < dims) ⊎ ((k ≡ dims) × ((name : List ℕ) × (b ≡ Class name)))
    by_rest zero (Primitive x) same r = absurd (false≢true r)
    by_rest zero (Class name) same r = inr (omega (arith, same, le), (name, refl))
    by_rest (suc n) b same r = inl (omega (arith, same))

pub array_reference : (n : ℕ) (base : BaseType) → 0 < n → is_reference (type_of n base) ≡ true
array_reference n base lt = let e : nat_lt 0 n ≡ true = grind (arith, nat_tests) in rw e refl

reference : (t : FieldType) (k : ℕ) → k < t.dims + objects_of (class_name_of t.base) → (k ≤ t.dims) × (is_reference (type_of (t.dims - k) t.base) ≡ true)
reference t k lt = by_base t.dims t.base lt
  where
    by_base : (dims : ℕ) (base : BaseType) → k < dims + objects_of (class_name_of base) → (k ≤ dims) × (is_reference (type_of (dims - k) base) ≡ true)
    by_base dims (Primitive x) less = (omega (arith, less), array_reference (dims - k) (Primitive x) (omega (arith, less)))
    by_base dims (Class name) less = (omega (arith, less), class_reference (dims - k))
      where
        class_reference : (n : ℕ) → is_reference (type_of n (Class name)) ≡ true
        class_reference zero = refl
        class_reference (suc n) = array_reference (suc n) (Class name) (omega arith)

-- the layers of what a value of a type has afresh
fresh_layer : (t : FieldType) (x : Fresh) (k : ℕ) (u : FieldType) → IsFresh t x → k ≤ t.dims → u ≡ type_of (t.dims - k) t.base → is_reference u ≡ true → Layer x.dims (class_in x) k u
fresh_layer t x k u fresh le e is =
    let dims : u.dims ≡ t.dims - k = ap (λ (z : FieldType). z.dims) e in
    let base : u.base ≡ t.base = ap (λ (z : FieldType). z.base) e in
    elim (reference_is t.dims k t.base le (subst (λ z. is_reference z ≡ true) e is)) [
      | inl lt ↦ inl (omega (arith, lt, fresh.0), omega (arith, dims, lt))
      | inr (end, (name, class)) ↦ inr (omega (arith, end, fresh.0), omega (arith, dims, end), (name, base ∙ class, fresh.1 ∙ ap class_name_of class))
    ]

fresh_count : (t : FieldType) (x : Fresh) → IsFresh t x → count_of x ≡ t.dims + objects_of (class_name_of t.base)
fresh_count t x fresh = ap (λ n. n + objects_of (class_in x)) fresh.0 ∙ ap (λ o. t.dims + objects_of o) fresh.1

nothing_count : (x : Fresh) → IsNothing x → count_of x ≡ 0
nothing_count x none = ap (λ n. n + objects_of (class_in x)) none.0 ∙ ap (λ o. 0 + objects_of o) none.1

module _ (p : Program) (asked : IsReadProgram p) (t : Statement) (b : Body) (i : Instr) (c : ℕ) (file : ClassFile) (at : IsAt p t b i) (of : ClassOf p t.method c file) where
  kind_at : (K : ℕ → Type 0) → HasOpcode p t K → K i.op
  kind_at K (a, j, there, is) = let same = one_at p asked t a b j i there at in subst (λ (x : Instr). K x.op) same.1 is

  class_here : (text : List ℕ) → NamesClass p t text → class_at file.pool i.index ≡ Some text
  class_here text (a, j, d, g, there, from, has) =
      let same = one_at p asked t a b j i there at in
      let files = one_class_file p asked t.method d c g file from of in
      subst (λ (x : Instr). class_at file.pool x.index ≡ Some text) same.1 (subst (λ (x : ClassFile). class_at x.pool j.index ≡ Some text) files.1 has)

  descriptor_here : (bytes : List ℕ) → NamesDescriptor p t bytes → descriptor_at file.pool i.index ≡ Some bytes
  descriptor_here bytes (a, j, d, g, there, from, has) =
      let same = one_at p asked t a b j i there at in
      let files = one_class_file p asked t.method d c g file from of in
      subst (λ (x : Instr). descriptor_at file.pool x.index ≡ Some bytes) same.1 (subst (λ (x : ClassFile). descriptor_at x.pool j.index ≡ Some bytes) files.1 has)

  kinded : (k : ℕ) (u : FieldType) → HasType p (Made t k) u → Kinded i file k u
  kinded k u (of_new {text} o names is) = made_object (kind_at IsNew o) refl text (class_here text names) is
  kinded k u (of_primitive_array o code e) = made_array (kind_at IsNewArray (o.0, o.1, o.2, (omega (arith, o.3), omega (arith, o.3)))) refl (omega (arith, ap (λ (x : FieldType). x.dims) e))
  kinded k u (of_reference_array o names is e) = made_array (kind_at IsNewArray (o.0, o.1, o.2, (omega (arith, o.3), omega (arith, o.3)))) refl (omega (arith, ap (λ (x : FieldType). x.dims) e))
  kinded k u (of_dimension {b = a} {i = j} {text = text} {t = ty} there op names is lt e) =
      let same = one_at p asked t a b j i there at in
      made_dimension (subst (λ (x : Instr). IsMultiNewArray x.op) same.1 op) text (class_here text names) ty is (subst (λ (x : Instr). k < x.dims) same.1 lt)
      (subst (λ (x : Instr). x.dims ≤ ty.dims) same.1 (asked.dimensions t a j text ty there op names is)) e
  kinded k u (of_constant {name = name} o (a, j, d, g, one, there, from, is, class) e) =
      let same = one_at p asked t a b j i there at in
      let files = one_class_file p asked t.method d c g file from of in
      let here = subst (λ (x : Instr). constant_at file.pool x.index ≡ Some one) same.1 (subst (λ (x : ClassFile). constant_at x.pool j.index ≡ Some one) files.1 is) in
      made_constant (kind_at IsConstant o) refl name (loaded_class (constant_at file.pool i.index) one name here class) e
  kinded k u (of_result {t = ty} (inl (m, (op, bytes, names, is), result)) le e r) =
      made_answer (kind_at IsCall op) ty (bytes, descriptor_here bytes names, (m, is, result)) le e r
  kinded k u (of_result {t = ty} (inr (op, (bytes, names, is))) le e r) = made_reading (kind_at IsReader op) ty (bytes, descriptor_here bytes names, is) le e r

  -- an instruction that makes nothing
  pub nothing_made : (x : Fresh) → IsNothing x → (IsMaker i.op → ⊥) → AreMade p t x
  nothing_made x none other = made_of p t x (λ k u typed. absurd (other (maker k u (kinded k u typed)))) (λ k lt. absurd (omega (arith, lt, nothing_count x none)))
    where
      maker : (k : ℕ) (u : FieldType) → Kinded i file k u → IsMaker i.op
      maker k u (made_constant op z name is e) = inl op
      maker k u (made_reading op ty is le e r) = inr (inl op)
      maker k u (made_answer op ty is le e r) = inr (inr (inl op))
      maker k u (made_object op z text names is) = inr (inr (inr (inl op)))
      maker k u (made_array op z lt) = inr (inr (inr (inr (inl op))))
      maker k u (made_dimension op text names ty is lt le e) = inr (inr (inr (inr (inr op))))

  pub constant_made : (x : Fresh) → IsConstant i.op → IsLoaded file.pool i.index x → AreMade p t x
  constant_made x op loaded = made_of p t x (λ k u typed. layer k u (kinded k u typed)) has
    where
      layer : (k : ℕ) (u : FieldType) → Kinded i file k u → Layer x.dims (class_in x) k u
      layer k u (made_constant o z name is e) = inr (omega (arith, z, loaded.0), ap (λ (y : FieldType). y.dims) e, (name, ap (λ (y : FieldType). y.base) e, loaded.1 ∙ is))
      layer k u (made_object o z text names is) = absurd (omega (arith, op.1, o))
      layer k u (made_array o z lt) = absurd (omega (arith, op.1, o.0))
      layer k u (made_dimension o text names ty is lt le e) = absurd (omega (arith, op.1, o))
      layer k u (made_answer o ty is le e r) = absurd (omega (arith, op.1, o.0))
      layer k u (made_reading o ty is le e r) = absurd (omega (arith, op.1, reads i.op o))

      of_class : (k : ℕ) (o : Option (List ℕ)) → option_and_then class_of_constant (constant_at file.pool i.index) ≡ o → k < 0 + objects_of o → (u : FieldType) × HasType p (Made t k) u
      of_class k None e lt = absurd (omega (arith, lt))
      of_class k (Some name) e lt =
          let (one, there, class) = loaded_constant (constant_at file.pool i.index) name e in
          let outer : 0 ≡ k = omega (arith, lt) in
          (type_of 0 (Class name), subst (λ n. HasType p (Made t n) (type_of 0 (Class name))) outer (of_constant {name = name} (b, i, at, op) (b, i, c, file, one, at, of, there, class) refl))

      has : (k : ℕ) → k < count_of x → (u : FieldType) × HasType p (Made t k) u
      has k lt = of_class k (class_in x) (sym loaded.1) (omega (arith, lt, loaded.0))

  pub array_made : (x : Fresh) → IsNewArray i.op → x.dims ≡ 1 → class_in x ≡ None → AreMade p t x
  array_made x op one none = made_of p t x (λ k u typed. layer k u (kinded k u typed)) has
    where
      layer : (k : ℕ) (u : FieldType) → Kinded i file k u → Layer x.dims (class_in x) k u
      layer k u (made_array o z lt) = inl (omega (arith, z, one), lt)
      layer k u (made_constant o z name is e) = absurd (omega (arith, op.0, o.1))
      layer k u (made_object o z text names is) = absurd (omega (arith, op.0, o))
      layer k u (made_dimension o text names ty is lt le e) = absurd (omega (arith, op.1, o))
      layer k u (made_answer o ty is le e r) = absurd (omega (arith, op.0, o.1))
      layer k u (made_reading o ty is le e r) = absurd (omega (arith, op.0, reads i.op o))

      has : (k : ℕ) → k < count_of x → (u : FieldType) × HasType p (Made t k) u
      has k lt =
          let count : count_of x ≡ 1 = ap (λ n. n + objects_of (class_in x)) one ∙ ap (λ o. 1 + objects_of o) none in
          let outer : 0 ≡ k = omega (arith, lt, count) in
          let made = asked.arrays t (b, i, at, op) in
          (made.0, subst (λ n. HasType p (Made t n) made.0) outer made.1)

  pub object_made : (x : Fresh) → IsNew i.op → IsNewAt file.pool i.index x → AreMade p t x
  object_made x op new = by_text (class_at file.pool i.index) refl new
    where
      layer : (text : List ℕ) → class_at file.pool i.index ≡ Some text → ((u : FieldType) → NamesType text u → Layer x.dims (class_in x) 0 u) → (k : ℕ) (u : FieldType) → Kinded i file k u → Layer x.dims (class_in x) k u
      layer text e first k u (made_object o z other names is) =
          let same : other ≡ text = same_Some other text (sym names ∙ e) in
          subst (λ n. Layer x.dims (class_in x) n u) (sym z) (first u (subst (λ w. NamesType w u) same is))
      layer text e first k u (made_array o z lt) = absurd (omega (arith, op, o.0))
      layer text e first k u (made_constant o z name is f) = absurd (omega (arith, op, o.1))
      layer text e first k u (made_dimension o other names ty is lt le f) = absurd (omega (arith, op, o))
      layer text e first k u (made_answer o ty is le f r) = absurd (omega (arith, op, o.1))
      layer text e first k u (made_reading o ty is le f r) = absurd (omega (arith, op, reads i.op o))

      unnamed : class_at file.pool i.index ≡ None → (k : ℕ) (u : FieldType) → Kinded i file k u → ⊥
      unnamed e k u (made_object o z other names is) = let f : None ≡ Some other = sym e ∙ names in cc f
      unnamed e k u (made_array o z lt) = omega (arith, op, o.0)
      unnamed e k u (made_constant o z name is f) = omega (arith, op, o.1)
      unnamed e k u (made_dimension o other names ty is lt le f) = omega (arith, op, o)
      unnamed e k u (made_answer o ty is le f r) = omega (arith, op, o.1)
      unnamed e k u (made_reading o ty is le f r) = omega (arith, op, reads i.op o)

      first_layer : (ty u : FieldType) → ty ≡ u → IsFirst ty x → Layer x.dims (class_in x) 0 u
      first_layer ty u e (inl (lt, one, none)) = inl (omega (arith, one), omega (arith, lt, ap (λ (z : FieldType). z.dims) e))
      first_layer ty u e (inr (flat, none, (name, base, class))) =
          inr (omega (arith, none), omega (arith, flat, ap (λ (z : FieldType). z.dims) e), (name, sym (ap (λ (z : FieldType). z.base) e) ∙ base, class))

      first_count : (ty : FieldType) → IsFirst ty x → count_of x ≡ 1
      first_count ty (inl (lt, one, none)) = ap (λ n. n + objects_of (class_in x)) one ∙ ap (λ o. 1 + objects_of o) none
      first_count ty (inr (flat, none, (name, base, class))) = ap (λ n. n + objects_of (class_in x)) none ∙ ap (λ o. 0 + objects_of o) class

      by_new : (text : List ℕ) → class_at file.pool i.index ≡ Some text → IsNewOf text x → AreMade p t x
      by_new text e (inl (ty, names, first)) = made_of p t x
          (λ k u typed. layer text e (λ v is. first_layer ty v (one_named text ty v names is) first) k u (kinded k u typed))
          (λ k lt.
          let outer : 0 ≡ k = omega (arith, lt, first_count ty first) in
          (ty, subst (λ n. HasType p (Made t n) ty) outer (of_new {text = text} (b, i, at, op) (b, i, c, file, at, of, e) names)))
      by_new text e (inr (never, none)) = made_of p t x
          (λ k u typed. layer text e (λ v is. absurd (never v is)) k u (kinded k u typed))
          (λ k lt. absurd (omega (arith, lt, nothing_count x none)))

      by_text : (o : Option (List ℕ)) → class_at file.pool i.index ≡ o → IsOf IsNewOf o x → AreMade p t x
      by_text None e none = made_of p t x (λ k u typed. absurd (unnamed e k u (kinded k u typed))) (λ k lt. absurd (omega (arith, lt, nothing_count x none)))
      by_text (Some text) e is = by_new text e is

  pub dimensions_made : (x : Fresh) → IsMultiNewArray i.op → IsArrayAt file.pool i.index i.dims x → AreMade p t x
  dimensions_made x op arrays = by_text (class_at file.pool i.index) refl arrays
    where
      layer : ((k : ℕ) (u : FieldType) (text : List ℕ) (ty : FieldType) → class_at file.pool i.index ≡ Some text → NamesType text ty → k < i.dims → i.dims ≤ ty.dims → u ≡ type_of (ty.dims - k) ty.base → Layer x.dims (class_in x) k u) →
          (k : ℕ) (u : FieldType) → Kinded i file k u → Layer x.dims (class_in x) k u
      layer f k u (made_dimension o text names ty is lt le e) = f k u text ty names is lt le e
      layer f k u (made_object o z other names is) = absurd (omega (arith, op, o))
      layer f k u (made_array o z lt) = absurd (omega (arith, op, o.1))
      layer f k u (made_constant o z name is e) = absurd (omega (arith, op, o.1))
      layer f k u (made_answer o ty is le e r) = absurd (omega (arith, op, o.1))
      layer f k u (made_reading o ty is le e r) = absurd (omega (arith, op, reads i.op o))

      -- a text of a type with dimensions is an array's
      is_array : (text : List ℕ) (ty : FieldType) → 0 < ty.dims → NamesType text ty → IsArrayType text ty
      is_array text ty lt is = elim (named text ty.dims ty.base is) [
        | inl (e, class) ↦ absurd (omega (arith, lt, ap (λ (z : FieldType). z.dims) e))
        | inr descriptor ↦ descriptor
      ]

      by_array : (text : List ℕ) → class_at file.pool i.index ≡ Some text → IsArrayOf text i.dims x → AreMade p t x
      by_array text e (inl (ty, descriptor, dims, none)) = made_of p t x
          (λ k u typed. layer (λ n v other tz names is lt le f. inl (omega (arith, lt, dims), omega (arith, lt, le, ap (λ (z : FieldType). z.dims) f))) k u (kinded k u typed))
          (λ k lt.
          let count : count_of x ≡ i.dims = ap (λ n. n + objects_of (class_in x)) dims ∙ ap (λ o. i.dims + objects_of o) none ∙ no_more i.dims in
          (type_of (ty.dims - k) ty.base, of_dimension {b = b} {i = i} {text = text} {t = ty} at op (b, i, c, file, at, of, e) (array_named text ty descriptor) (omega (arith, lt, count)) refl))
      by_array text e (inr (never, none)) = made_of p t x
          (λ k u typed. layer (λ n v other tz names is lt le f.
          let same : other ≡ text = same_Some other text (sym names ∙ e) in
          absurd (never tz (subst (λ w. IsArrayType w tz) same (is_array other tz (omega (arith, lt, le)) is)))) k u (kinded k u typed))
          (λ k lt. absurd (omega (arith, lt, nothing_count x none)))

      by_text : (o : Option (List ℕ)) → class_at file.pool i.index ≡ o → IsOf (λ text. IsArrayOf text i.dims) o x → AreMade p t x
      by_text None e none = made_of p t x
          (λ k u typed. layer (λ n v other tz names is lt le f. let g : None ≡ Some other = sym e ∙ names in absurd (cc g)) k u (kinded k u typed))
          (λ k lt. absurd (omega (arith, lt, nothing_count x none)))
      by_text (Some text) e is = by_array text e is

  pub answer_made : (x : Fresh) → IsCall i.op → IsFreshOf (ResultIn file.pool i.index) x → AreMade p t x
  answer_made x op (inr (never, none)) = made_of p t x (λ k u typed. layer k u (kinded k u typed)) (λ k lt. absurd (omega (arith, lt, nothing_count x none)))
    where
      layer : (k : ℕ) (u : FieldType) → Kinded i file k u → Layer x.dims (class_in x) k u
      layer k u (made_answer o ty is le e r) = absurd (never ty is)
      layer k u (made_dimension o text names ty is lt le e) = absurd (omega (arith, op.1, o))
      layer k u (made_object o z other names is) = absurd (omega (arith, op.1, o))
      layer k u (made_array o z lt) = absurd (omega (arith, op.1, o.0))
      layer k u (made_constant o z name is e) = absurd (omega (arith, op.0, o.1))
      layer k u (made_reading o ty is le e r) = absurd (omega (arith, op.0, reads i.op o))
  answer_made x op (inl (ty, (bytes, names, (m, method, result)), fresh)) = made_of p t x (λ k u typed. layer k u (kinded k u typed)) (λ k lt.
      let r = reference ty k (omega (arith, lt, fresh_count ty x fresh)) in
      (type_of (ty.dims - k) ty.base, of_result {t = ty} (inl (m, ((b, i, at, op), bytes, (b, i, c, file, at, of, names), method), result)) r.0 refl r.1))
    where
      layer : (k : ℕ) (u : FieldType) → Kinded i file k u → Layer x.dims (class_in x) k u
      layer k u (made_answer o tz (other, there, (n, is, e)) le f r) =
          let same : other ≡ bytes = same_Some other bytes (sym there ∙ names) in
          let methods = one_method_type bytes n m (subst (λ w. IsMethodType w n) same is) method in
          let types : tz ≡ ty = same_Some tz ty (sym e ∙ ap (λ (z : MethodType). z.result) methods ∙ result) in
          fresh_layer ty x k u fresh (subst (λ (z : FieldType). k ≤ z.dims) types le) (subst (λ (z : FieldType). u ≡ type_of (z.dims - k) z.base) types f) r
      layer k u (made_dimension o text there tz is lt le e) = absurd (omega (arith, op.1, o))
      layer k u (made_object o z other there is) = absurd (omega (arith, op.1, o))
      layer k u (made_array o z lt) = absurd (omega (arith, op.1, o.0))
      layer k u (made_constant o z name is e) = absurd (omega (arith, op.0, o.1))
      layer k u (made_reading o tz is le e r) = absurd (omega (arith, op.0, reads i.op o))

  pub field_made : (x : Fresh) → IsReader i.op → IsFreshOf (FieldIn file.pool i.index) x → AreMade p t x
  field_made x op (inr (never, none)) = made_of p t x (λ k u typed. layer k u (kinded k u typed)) (λ k lt. absurd (omega (arith, lt, nothing_count x none)))
    where
      layer : (k : ℕ) (u : FieldType) → Kinded i file k u → Layer x.dims (class_in x) k u
      layer k u (made_reading o ty is le e r) = absurd (never ty is)
      layer k u (made_dimension o text names ty is lt le e) = absurd (omega (arith, reads i.op op, o))
      layer k u (made_object o z other names is) = absurd (omega (arith, reads i.op op, o))
      layer k u (made_array o z lt) = absurd (omega (arith, reads i.op op, o.0))
      layer k u (made_constant o z name is e) = absurd (omega (arith, reads i.op op, o.1))
      layer k u (made_answer o ty is le e r) = absurd (omega (arith, reads i.op op, o.0))
  field_made x op (inl (ty, (bytes, names, field), fresh)) = made_of p t x (λ k u typed. layer k u (kinded k u typed)) (λ k lt.
      let r = reference ty k (omega (arith, lt, fresh_count ty x fresh)) in
      (type_of (ty.dims - k) ty.base, of_result {t = ty} (inr ((b, i, at, op), (bytes, (b, i, c, file, at, of, names), field))) r.0 refl r.1))
    where
      layer : (k : ℕ) (u : FieldType) → Kinded i file k u → Layer x.dims (class_in x) k u
      layer k u (made_reading o tz (other, there, is) le e r) =
          let same : other ≡ bytes = same_Some other bytes (sym there ∙ names) in
          let types : tz ≡ ty = one_field_type bytes tz ty (subst (λ w. IsFieldType w tz) same is) field in
          fresh_layer ty x k u fresh (subst (λ (z : FieldType). k ≤ z.dims) types le) (subst (λ (z : FieldType). u ≡ type_of (z.dims - k) z.base) types e) r
      layer k u (made_dimension o text there tz is lt le e) = absurd (omega (arith, reads i.op op, o))
      layer k u (made_object o z other there is) = absurd (omega (arith, reads i.op op, o))
      layer k u (made_array o z lt) = absurd (omega (arith, reads i.op op, o.0))
      layer k u (made_constant o z name is e) = absurd (omega (arith, reads i.op op, o.1))
      layer k u (made_answer o tz is le e r) = absurd (omega (arith, reads i.op op, o.0))

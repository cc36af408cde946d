-- The text of a site, by the instruction that makes it.
use Rattle.std.proofs.Common.{◌≡◌, ◌⊎◌, ◌+◌, ◌-◌, ℕ, List, Option, Some, sym, ap, subst, ◌∙◌, inl, inr, arith}
use Rattle.std.specs.Prelude.{option_and_then, slice_get}
use Rattle.std.proofs.lemmas.Bool.{cases_lt}
use Rattle.slicer_ids.specs.declared.ids.Statement.{Statement}
use Rattle.class_form.specs.Pools.{constant_at, class_at, descriptor_at}
use Rattle.class_form.specs.Opcodes.{IsFrom, IsNew, IsMultiNewArray, IsConstant, IsCall, IsGetStatic, IsGetField}
use Rattle.class_form.specs.Types.{constant_text}
use Rattle.class_form.specs.declared.class_file.ClassFile.{ClassFile}
use Rattle.class_form.specs.declared.class_file.CodeBody.{CodeBody}
use Rattle.class_form.specs.declared.pool.Constant.{Constant}
use Rattle.class_form.specs.declared.types.FieldType.{FieldType}
use Rattle.class_form.specs.declared.body.Body.{Body}
use Rattle.class_form.specs.declared.body.Instr.{Instr}
use Rattle.program_form.specs.Programs.{Program, ClassOf, CodeOf}
use Rattle.program_form.specs.Statements.{IsAt, HasOpcode, NamesClass, NamesDescriptor}
use Rattle.program_form.specs.Sites.{Made, HasType, of_new, of_primitive_array, of_reference_array, of_dimension, of_constant, of_result, class_of_constant}
use Rattle.constraint_form.specs.Asked.{IsReadProgram}
use Rattle.constraint_form.proofs.Instructions.{one_at, one_class_file}
use Rattle.text_tables.specs.SiteTexts.{maker_of, IsText, IsAnswerText, IsFieldText}
use Rattle.text_tables.proofs.TypeTexts.{layer_named}

-- a kind of opcodes
at_call : (P : ℕ → Type 0) (op : ℕ) → IsFrom 182 186 op → P 182 → P 183 → P 184 → P 185 → P 186 → P op
at_call P op is a b c d e = elim (cases_lt op 184) [
  | inl lt ↦ elim (cases_lt op 183) [ inl less ↦ subst P (omega (arith, is.0, less)) a | inr from ↦ subst P (omega (arith, lt, from)) b ]
  | inr ge ↦ elim (cases_lt op 185) [
    | inl lt ↦ subst P (omega (arith, ge, lt)) c
    | inr from ↦ elim (cases_lt op 186) [ inl less ↦ subst P (omega (arith, from, less)) d | inr last ↦ subst P (omega (arith, is.1, last)) e ]
  ]
]

at_constant : (P : ℕ → Type 0) (op : ℕ) → IsFrom 18 19 op → P 18 → P 19 → P op
at_constant P op is a b = elim (cases_lt op 19) [ inl lt ↦ subst P (omega (arith, is.0, lt)) a | inr ge ↦ subst P (omega (arith, is.1, ge)) b ]

loaded_class : (o : Option Constant) (c : Constant) (name : List ℕ) → o ≡ Some c → class_of_constant c ≡ Some name → option_and_then class_of_constant o ≡ Some name
loaded_class o c name e is = ap (λ x. option_and_then class_of_constant x) e ∙ is

module _ (p : Program) (asked : IsReadProgram p) (s : Statement) (b : Body) (i : Instr) (c : ℕ) (file : ClassFile) (code : List ℕ) (at : IsAt p s b i) (of : ClassOf p s.method c file)
    (bytes_are : (body : CodeBody) → CodeOf p s.method body → code ≡ body.code) where
  kind_at : (K : ℕ → Type 0) → HasOpcode p s K → K i.op
  kind_at K (a, j, there, is) = let same = one_at p asked s a b j i there at in subst (λ (x : Instr). K x.op) same.1 is

  class_here : (text : List ℕ) → NamesClass p s text → class_at file.pool i.index ≡ Some text
  class_here text (a, j, d, g, there, from, has) =
      let same = one_at p asked s a b j i there at in
      let files = one_class_file p asked s.method d c g file from of in
      subst (λ (x : Instr). class_at file.pool x.index ≡ Some text) same.1 (subst (λ (x : ClassFile). class_at x.pool j.index ≡ Some text) files.1 has)

  descriptor_here : (bytes : List ℕ) → NamesDescriptor p s bytes → descriptor_at file.pool i.index ≡ Some bytes
  descriptor_here bytes (a, j, d, g, there, from, has) =
      let same = one_at p asked s a b j i there at in
      let files = one_class_file p asked s.method d c g file from of in
      subst (λ (x : Instr). descriptor_at file.pool x.index ≡ Some bytes) same.1 (subst (λ (x : ClassFile). descriptor_at x.pool j.index ≡ Some bytes) files.1 has)

  abbrev Text : ℕ → List ℕ → ℕ → Type 0
  Text k x op = IsText (maker_of op) file.pool code i k x

  called : (k : ℕ) (x : List ℕ) → IsCall i.op → IsAnswerText file.pool i.index k x → Text k x i.op
  called k x is h = at_call (Text k x) i.op is h h h h h

  read : (k : ℕ) (x : List ℕ) → IsGetStatic i.op ⊎ IsGetField i.op → IsFieldText file.pool i.index k x → Text k x i.op
  read k x (inl e) h = subst (Text k x) (sym e) h
  read k x (inr e) h = subst (Text k x) (sym e) h

  pub text_of_site : (k : ℕ) (u : FieldType) → HasType p (Made s k) u → Text k (constant_text u) i.op
  text_of_site k u (of_new {text = text} o names is) = subst (Text 0 (constant_text u)) (sym (kind_at IsNew o)) (class_here text names ∙ ap (λ (x : List ℕ). Some x) is.1)
  text_of_site k u (of_primitive_array {code = element} o (body, has, here) e) =
      subst (Text 0 (constant_text u)) (sym (kind_at (λ op. op ≡ 188) o))
      (element, subst (λ (n : ℕ). slice_get code (n + 1) ≡ Some element) (sym at.3) (subst (λ (xs : List ℕ). slice_get xs (s.pc + 1) ≡ Some element) (sym (bytes_are body has)) here), ap constant_text e)
  text_of_site k u (of_reference_array {text = text} {t = t} o names is e) =
      subst (Text 0 (constant_text u)) (sym (kind_at (λ op. op ≡ 189) o)) (text, t, class_here text names, is, ap constant_text e)
  text_of_site k u (of_dimension {b = a} {i = j} {text = text} {t = t} there op names is lt e) =
      let same = one_at p asked s a b j i there at in
      let whole = asked.dimensions s a j text t there op names is in
      subst (Text k (constant_text u)) (sym (subst (λ (x : Instr). IsMultiNewArray x.op) same.1 op)) (text, class_here text names, ap constant_text e ∙ layer_named text t k is (omega (arith, whole, lt)))
  text_of_site k u (of_constant {name = name} o (a, j, d, g, one, there, from, is, class) e) =
      let same = one_at p asked s a b j i there at in
      let files = one_class_file p asked s.method d c g file from of in
      let here = subst (λ (x : Instr). constant_at file.pool x.index ≡ Some one) same.1 (subst (λ (x : ClassFile). constant_at x.pool j.index ≡ Some one) files.1 is) in
      let loaded : option_and_then class_of_constant (constant_at file.pool i.index) ≡ Some (constant_text u) = loaded_class (constant_at file.pool i.index) one name here class ∙ ap (λ (v : FieldType). Some (constant_text v)) (sym e) in
      at_constant (Text 0 (constant_text u)) i.op (kind_at IsConstant o) loaded loaded
  text_of_site k u (of_result {t = t} (inl (m, (op, bytes, names, is), result)) le e r) =
      called k (constant_text u) (kind_at IsCall op) (bytes, m, t, descriptor_here bytes names, is, result, ap constant_text e)
  text_of_site k u (of_result {t = t} (inr (op, (bytes, names, is))) le e r) =
      read k (constant_text u) (kind_at (λ op. IsGetStatic op ⊎ IsGetField op) op) (bytes, t, descriptor_here bytes names, is, ap constant_text e)

-- An array that is made has a type, of at least as many dimensions as are made.
use Rattle.std.proofs.Common.{◌≡◌, ◌⊎◌, ◌+◌, ◌≤◌, ℕ, false, List, length, All, Some, inl, inr, refl, subst, arith}
use Rattle.std.specs.Prelude.{nat_eq, slice_get}
use Rattle.std.proofs.lemmas.Bool.{cases_lt}
use Rattle.std.proofs.lemmas.Bool.Decides.{nat_tests}
use Rattle.slicer_ids.specs.declared.ids.Statement.{Statement}
use Rattle.class_form.specs.ClassRules.{IsClassFile}
use Rattle.class_form.specs.Names.{IsClassName}
use Rattle.class_form.specs.Opcodes.{IsNewArray}
use Rattle.class_form.specs.Pools.{class_at}
use Rattle.class_form.specs.PoolRules.{IsPool, IsArray}
use Rattle.class_form.specs.Types.{NamesType}
use Rattle.class_form.specs.Table.{opcode_of}
use Rattle.class_form.specs.Instructions.{Stands, size_of}
use Rattle.class_form.specs.declared.opcode.ConstantKind.TheVariants.{Class}
use Rattle.class_form.specs.declared.opcode.Form.TheVariants.{Index, ElementType}
use Rattle.class_form.specs.declared.pool.Pool.{Pool}
use Rattle.class_form.specs.declared.types.FieldType.{FieldType}
use Rattle.class_form.specs.declared.types.BaseType.TheVariants.{Primitive, Class as OfClass}
use Rattle.class_form.specs.declared.body.Body.{Body}
use Rattle.class_form.specs.declared.body.Instr.{Instr}
use Rattle.class_form.proofs.Indices.{index_at}
use Rattle.program_form.specs.Programs.{Program}
use Rattle.program_form.specs.Statements.{IsAt, HasOpcode, NamesClass}
use Rattle.program_form.specs.Sites.{Made, HasType, of_primitive_array, of_reference_array, element_letter}
use Rattle.program_code.specs.Codes.{IsProgramOfCode}
use Rattle.program_code.proofs.SiteTypes.{some_left}
use Rattle.read_programs.proofs.Forms.{form_is, constant_is}
use Rattle.read_programs.proofs.Constants.{named_class}
use Rattle.read_programs.proofs.Placing.{placed}

makes_primitives : (opcode_of 188).form ≡ ElementType
unfolding opcode_of
makes_primitives = refl

makes_references : (opcode_of 189).form ≡ Index Class
unfolding opcode_of
makes_references = refl

-- the byte behind the opcode
element_code : (code : List ℕ) (pool : Pool) (pc : ℕ) (i : Instr) → Stands code pool pc i → i.op ≡ 188 → (x : ℕ) × (slice_get code (pc + 1) ≡ Some x)
element_code code pool pc i stands e =
    let form = form_is code pool pc 188 ElementType i stands e makes_primitives refl in
    let whole = subst (λ f. pc + size_of code pc f ≤ length code) form stands.passes.1.1.1.1.0 in
    index_at code (pc + 1) (omega (arith, whole))

-- the text of a class, or of an array, names a type
type_named : (text : List ℕ) → IsClassName text ⊎ IsArray text → (t : FieldType) × NamesType text t
type_named text (inl h) = (record { dims = 0; base = OfClass text }, ((h, omega arith), refl, inr (text, refl)))
type_named text (inr h) =
    let some : nat_eq h.0.dims 0 ≡ false = grind (arith, nat_tests, h.1.1) in
    (h.0, (h.1.0.0, rw some h.1.0.1, inl h.1.1))

element_type : (code : List ℕ) (pool : Pool) (pc : ℕ) (i : Instr) → IsPool pool → Stands code pool pc i → i.op ≡ 189
    → (text : List ℕ) × (class_at pool i.index ≡ Some text) × (t : FieldType) × NamesType text t
element_type code pool pc i keeps stands e =
    let c = constant_is code pool pc 189 (Index Class) i stands e makes_references refl in
    let n = named_class pool keeps i.index c.0 c.1 c.2 in
    let t = type_named n.0 n.2 in
    (n.0, n.1, t.0, t.1)

module _ (p : Program) (coded : IsProgramOfCode p) where
  primitives : (s : Statement) → All IsClassFile p.classes → HasOpcode p s (λ op. op ≡ 188) → (t : FieldType) × HasType p (Made s 0) t
  primitives s sound (b, i, at, is) =
      let c = placed p coded sound s b i at in
      let x = element_code c.code.code c.file.pool s.pc i c.stands is in
      (record { dims = 1; base = Primitive (element_letter x.0) }, of_primitive_array (b, i, at, is) (c.code, c.of_code, x.1) refl)

  references : (s : Statement) → All IsClassFile p.classes → HasOpcode p s (λ op. op ≡ 189) → (t : FieldType) × HasType p (Made s 0) t
  references s sound (b, i, at, is) =
      let c = placed p coded sound s b i at in
      let n = element_type c.code.code c.file.pool s.pc i c.keeps.pool c.stands is in
      (record { dims = n.2.dims + 1; base = n.2.base }, of_reference_array (b, i, at, is) (b, i, c.number, c.file, at, c.of_class, n.1) n.3 refl)

  pub array_type : (s : Statement) → All IsClassFile p.classes → HasOpcode p s IsNewArray → (t : FieldType) × HasType p (Made s 0) t
  array_type s sound (b, i, at, is) = elim (cases_lt i.op 189) [
    | inl lt ↦ primitives s sound (b, i, at, omega (arith, is, lt))
    | inr ge ↦ references s sound (b, i, at, omega (arith, is, ge))
  ]

  pub few_dimensions : (s : Statement) (b : Body) (i : Instr) (text : List ℕ) (t : FieldType) → IsAt p s b i → NamesClass p s text → NamesType text t → i.dims ≤ t.dims
  few_dimensions s b i text t at names is = elim (cases_lt t.dims i.dims) [
    | inl lt ↦ absurd (omega (arith, some_left p coded s b i text t t.dims at names is lt))
    | inr ge ↦ omega (arith, ge)
  ]

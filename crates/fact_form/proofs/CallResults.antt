-- A call leaves a value exactly where it has a result.
use Rattle.std.proofs.Common.{◌≡◌, ◌<◌, ℕ, Option, Some, None, inl, inr, refl, sym, ap, subst, ◌∙◌, arith}
use Rattle.std.specs.Option.{option_map_or}
use Rattle.std.proofs.lemmas.Bool.{cases_eq}
use Rattle.slicer_ids.specs.declared.ids.MethodId.{MethodId}
use Rattle.slicer_ids.specs.declared.ids.Statement.{Statement}
use Rattle.class_form.specs.Opcodes.{IsCall}
use Rattle.class_form.specs.Table.{opcode_of}
use Rattle.class_form.specs.Types.{width}
use Rattle.class_form.specs.Instructions.{LeavesSlots}
use Rattle.class_form.specs.declared.class_file.ClassFile.{ClassFile}
use Rattle.class_form.specs.declared.body.Body.{Body}
use Rattle.class_form.specs.declared.body.Instr.{Instr}
use Rattle.class_form.specs.declared.types.FieldType.{FieldType}
use Rattle.class_form.specs.declared.types.MethodType.{MethodType}
use Rattle.class_form.specs.declared.opcode.Leaves.{Leaves}
use Rattle.class_form.specs.declared.opcode.Leaves.TheVariants.{Result}
use Rattle.class_form.proofs.DescriptorsRead.{width_some}
use Rattle.program_form.specs.Programs.{Program, ClassOf}
use Rattle.program_form.specs.Statements.{IsAt, CallType}
use Rattle.constraint_form.specs.Asked.{IsReadProgram}
use Rattle.constraint_form.proofs.Instructions.{one_call_type}
use Rattle.program_code.specs.Codes.{IsProgramOfCode}
use Rattle.program_code.proofs.OneInstruction.{coded_body, stands}
use Rattle.fact_form.specs.NodeNumbers.{HasResult}

-- what a call leaves is its result
of_call : (op : ℕ) → IsCall op → (opcode_of op).leaves ≡ Result
unfolding opcode_of
of_call op is = elim (cases_eq op 182) [
  | inl e ↦ subst (λ n. (opcode_of n).leaves ≡ Result) (sym e) refl
  | inr a ↦ elim (cases_eq op 183) [
    | inl e ↦ subst (λ n. (opcode_of n).leaves ≡ Result) (sym e) refl
    | inr b ↦ elim (cases_eq op 184) [
      | inl e ↦ subst (λ n. (opcode_of n).leaves ≡ Result) (sym e) refl
      | inr c ↦ elim (cases_eq op 185) [
        | inl e ↦ subst (λ n. (opcode_of n).leaves ≡ Result) (sym e) refl
        | inr d ↦ let e : op ≡ 186 = omega (arith, is, a, b, c, d) in subst (λ n. (opcode_of n).leaves ≡ Result) (sym e) refl
      ]
    ]
  ]
]

some_result : (r : Option FieldType) (n : ℕ) → n ≡ option_map_or width r 0 → 0 < n → (u : FieldType) × (r ≡ Some u)
some_result None n e lt = absurd (omega (arith, e, lt))
some_result (Some u) n e lt = (u, refl)

some_width : (r : Option FieldType) (u : FieldType) (n : ℕ) → r ≡ Some u → n ≡ option_map_or width r 0 → 0 < n
some_width r u n e d = let w : n ≡ width u = d ∙ ap (λ z. option_map_or width z 0) e in omega (arith, w, width_some u)

module _ (p : Program) (asked : IsReadProgram p) (coded : IsProgramOfCode p) (t : Statement) (b : Body) (i : Instr) (at : IsAt p t b i) (call : IsCall i.op) where
  -- the type that the call's constant names, and what it leaves
  typed : (m : MethodType) × CallType p t m × (i.leaves ≡ option_map_or width m.result 0)
  typed =
      let c = coded_body p coded b at.0 in
      let stand = stands c.code.code c.class.pool 0 b.instrs _ i c.is.instrs at.2 in
      let leaves : LeavesSlots c.class.pool i.index Result i.leaves = subst (λ (l : Leaves). LeavesSlots c.class.pool i.index l i.leaves) (of_call i.op call) stand.leaves in
      let class : ClassOf p t.method c.number c.class = subst (λ (m : MethodId). ClassOf p m c.number c.class) at.1 c.of_class in
      by_leaves c.number c.class leaves class
    where
      by_leaves : (n : ℕ) (k : ClassFile) → LeavesSlots k.pool i.index Result i.leaves → ClassOf p t.method n k → (m : MethodType) × CallType p t m × (i.leaves ≡ option_map_or width m.result 0)
      by_leaves n k (m, (bytes, named, spelled), size) class = (m, ((b, i, at, call), bytes, (b, i, n, k, at, class, named), spelled), size)

  pub leaves_result : 0 < i.leaves → HasResult p t
  leaves_result lt =
      let m = typed in
      let u = some_result m.0.result i.leaves m.2 lt in
      (m.0, u.0, m.1, u.1)

  pub result_leaves : HasResult p t → 0 < i.leaves
  result_leaves (m, u, type, e) =
      let n = typed in
      let same = one_call_type p asked t m n.0 type n.1 in
      some_width n.0.result u i.leaves (subst (λ (z : MethodType). z.result ≡ Some u) same e) n.2

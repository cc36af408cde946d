-- The byte of invokedynamic stands at a program counter exactly where the instruction there is invokedynamic.
use Rattle.std.proofs.Common.{◌≡◌, ◌↔◌, ◌<◌, ◌≤◌, ◌+◌, ℕ, Bool, true, false, cond, List, Some, All, Contains, length, refl, sym, ap, subst, ◌∙◌, arith}
use Rattle.std.specs.Prelude.{nat_eq, nat_lt, slice_get, slice_index, if◌then◌else◌}
use Rattle.std.proofs.lemmas.Bool.{false≢true}
use Rattle.std.proofs.lemmas.Bool.Decides.{nat_tests}
use Rattle.std.proofs.lemmas.Option.{same_Some, slice_get-get_or, get_or_from_slice_get}
use Rattle.std.proofs.lemmas.List.Elements.{All-contains}
use Rattle.slicer_ids.specs.declared.ids.MethodId.{MethodId}
use Rattle.slicer_ids.specs.declared.ids.Statement.{Statement}
use Rattle.class_form.specs.Classes.{Declared, HasCode, IsClass}
use Rattle.class_form.specs.ClassRules.{IsClassFile, IsMethodMember}
use Rattle.class_form.specs.Instructions.{Stands, head_size, is_known, is_wide, op_at, widened}
use Rattle.class_form.specs.Opcodes.{IsCall}
use Rattle.class_form.specs.Table.{opcode_of}
use Rattle.class_form.specs.declared.body.Body.{Body}
use Rattle.class_form.specs.declared.body.Instr.{Instr}
use Rattle.class_form.specs.declared.class_file.ClassFile.{ClassFile}
use Rattle.class_form.specs.declared.class_file.CodeBody.{CodeBody}
use Rattle.class_form.specs.declared.class_file.Member.{Member}
use Rattle.class_form.specs.declared.opcode.Form.{Form}
use Rattle.class_form.specs.declared.opcode.Form.TheVariants.{Undefined, Wide}
use Rattle.class_form.specs.declared.pool.Pool.{Pool}
use Rattle.class_form.proofs.Indices.{there_at}
use Rattle.program_form.specs.Programs.{Program}
use Rattle.program_form.specs.Statements.{HasOpcode}
use Rattle.program_code.specs.Codes.{IsOfMethod, IsProgramOfCode}
use Rattle.program_code.proofs.OneInstruction.{stands}
use Rattle.program_code.proofs.OneProgram.{one_code}
use Rattle.call_graph.specs.Refusals.{IsDynamicCall}
use Rattle.call_graph.specs.ByNumber.{IsDynamicAt}

-- after `wide` there is no invokedynamic
widened_dynamic : widened (opcode_of 186).form ≡ Undefined
unfolding opcode_of
widened_dynamic = refl

undefined_known : (major op : ℕ) (form : Form) → form ≡ Undefined → is_known major op form ≡ true → ⊥
undefined_known major op form e known = false≢true (subst (λ f. is_known major op f ≡ true) e known)

narrow_by : (code : List ℕ) (pc major op : ℕ) (form : Form) (wide more : Bool) → nat_lt (pc + 1) (length code) ≡ more → widened form ≡ Undefined
    → is_known major op (if wide then (if more then widened form else Wide) else form) ≡ true
    → pc + head_size code pc (if wide then (if more then widened form else Wide) else form) ≤ length code → wide ≡ false
narrow_by code pc major op form false more e u known whole = refl
narrow_by code pc major op form true true e u known whole = absurd (undefined_known major op (widened form) u known)
narrow_by code pc major op form true false e u known whole = absurd (past (pc + 1) (length code) e (omega arith))
  where
    past : (a b : ℕ) → nat_lt a b ≡ false → a < b → ⊥
    past a b f lt = grind (arith, nat_tests)

module _ (code : List ℕ) (pool : Pool) (i : Instr) (h : Stands code pool i.pc i) where
  plain : is_wide code i.pc ≡ false → i.op ≡ slice_index code i.pc
  plain e = h.op ∙ ap (λ b. slice_index code (cond b (i.pc + 1) i.pc)) e

  -- the byte is that of the opcode
  pub op_is : slice_get code i.pc ≡ Some 186 → i.op ≡ 186
  op_is e =
      let byte : slice_index code i.pc ≡ 186 = get_or_from_slice_get code i.pc 186 0 e in
      plain (ap (λ n. nat_eq n 196) byte) ∙ byte

  narrow : i.op ≡ 186 → is_wide code i.pc ≡ false
  narrow e =
      narrow_by code i.pc pool.major (op_at code i.pc) (opcode_of (op_at code i.pc)).form (is_wide code i.pc) (nat_lt (i.pc + 1) (length code)) refl
      (ap (λ n. widened (opcode_of n).form) (sym h.op ∙ e) ∙ widened_dynamic) h.passes.0 h.passes.1.1.0

  pub byte_is : i.op ≡ 186 → slice_get code i.pc ≡ Some 186
  byte_is e = slice_get-get_or code i.pc 0 h.inside ∙ ap (λ n. Some n) (sym (plain (narrow e)) ∙ e)

-- ---- statements
module _ (p : Program) (coded : IsProgramOfCode p) where
  of_body : (b : Body) → Contains p.bodies b → IsOfMethod p b
  of_body b there = All-contains (IsOfMethod p) p.bodies b coded.bodies there

  pub has_byte : (t : Statement) → HasOpcode p t IsDynamicCall → IsDynamicAt p.classes p.methods t
  has_byte t (b, i, (there, method, one, pc, point), op) =
      let h = of_body b there in
      let member = h.6 in
      let at = byte_is h.5.code h.4.pool i (stands h.5.code h.4.pool 0 b.instrs (length h.5.code) i h.9.instrs one) op in (
        h.0,
        subst (λ (m : MethodId). slice_get p.methods m.0 ≡ Some h.0) method member.0,
        (
          h.4,
          h.7,
          (
            h.1,
            subst (λ (k : ClassFile). slice_get k.methods h.0.index ≡ Some h.1) (same_Some member.1.0 h.4 (sym member.1.1 ∙ h.7)) member.1.2.0,
            (h.8.0, h.8.1, (h.5, h.8.2, subst (λ n. slice_get h.5.code n ≡ Some 186) pc at)),
          ),
        ),
      )

  module _ (sound : All IsClassFile p.classes) where
    -- a method of a class of the program has one code
    same_code : (d : Declared) (k : ClassFile) (m : Member) (c e : CodeBody) → IsClass p.classes d.class k → slice_get k.methods d.index ≡ Some m → HasCode m c → HasCode m e → c ≡ e
    same_code d k m c e class at first second =
        let file = All-contains IsClassFile p.classes k sound (there_at p.classes d.class k class) in
        let member = All-contains (IsMethodMember k.pool k.flags) k.methods m file.methods (there_at k.methods d.index m at) in
        one_code m c e member.one_code first second

    pub has_op : (t : Statement) → HasOpcode p t IsCall → IsDynamicAt p.classes p.methods t → HasOpcode p t IsDynamicCall
    has_op t (b, i, (there, method, one, pc, point), call) (d, by, (k, class, (m, at, (a, holds, (c, is, byte))))) =
        let h = of_body b there in
        let member = h.6 in
        let d_is : d ≡ h.0 = same_Some d h.0 (sym by ∙ subst (λ (n : MethodId). slice_get p.methods n.0 ≡ Some h.0) method member.0) in
        let k_is : k ≡ h.4 = same_Some k h.4 (sym class ∙ ap (λ (x : Declared). slice_get p.classes x.class) d_is ∙ h.7) in
        let in_class : slice_get h.4.methods h.0.index ≡ Some h.1 = subst (λ (x : ClassFile). slice_get x.methods h.0.index ≡ Some h.1) (same_Some member.1.0 h.4 (sym member.1.1 ∙ h.7)) member.1.2.0 in
        let m_is : m ≡ h.1 = same_Some m h.1 (sym at ∙ ap (λ (x : Declared). slice_get k.methods x.index) d_is ∙ ap (λ (x : ClassFile). slice_get x.methods h.0.index) k_is ∙ in_class) in
        let c_is : c ≡ h.5 = same_code h.0 h.4 h.1 c h.5 h.7 in_class (subst (λ (x : Member). HasCode x c) m_is (a, holds, is)) h.8 in
        let stood : slice_get h.5.code i.pc ≡ Some 186 = subst (λ n. slice_get h.5.code n ≡ Some 186) (sym pc) (subst (λ (x : CodeBody). slice_get x.code t.pc ≡ Some 186) c_is byte) in
        (b, i, (there, method, one, pc, point), op_is h.5.code h.4.pool i (stands h.5.code h.4.pool 0 b.instrs (length h.5.code) i h.9.instrs one) stood)

    pub dynamic_is : (t : Statement) → HasOpcode p t IsCall → IsDynamicAt p.classes p.methods t ↔ HasOpcode p t IsDynamicCall
    dynamic_is t call = (has_op t call, has_byte t)

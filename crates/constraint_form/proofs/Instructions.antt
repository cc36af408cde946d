-- What stands at a statement: one instruction, in one class file.
use Rattle.std.proofs.Common.{◌≡◌, ◌<◌, ℕ, Bool, true, false, List, length, Some, refl, sym, ap, subst, ◌∙◌, arith}
use Rattle.std.specs.Prelude.{Contains, slice_get}
use Rattle.std.proofs.lemmas.Option.{same_Some, slice_get_within}
use Rattle.slicer_ids.specs.declared.ids.MethodId.{MethodId}
use Rattle.slicer_ids.specs.declared.ids.Statement.{Statement}
use Rattle.class_form.specs.Pools.{MemberKey, class_at, member_at, descriptor_at}
use Rattle.class_form.specs.Types.{IsMethodType, IsFieldType}
use Rattle.class_form.specs.Classes.{Declared, IsClass}
use Rattle.class_form.specs.Opcodes.{IsCall, IsInstanceCall}
use Rattle.class_form.specs.declared.class_file.ClassFile.{ClassFile}
use Rattle.class_form.specs.declared.body.Body.{Body}
use Rattle.class_form.specs.declared.body.Instr.{Instr}
use Rattle.class_form.specs.declared.types.FieldType.{FieldType}
use Rattle.class_form.specs.declared.types.MethodType.{MethodType}
use Rattle.class_form.proofs.Indices.{index_in}
use Rattle.class_form.proofs.OneType.{one_field_type, one_method_type}
use Rattle.program_form.specs.Programs.{Program, ClassOf, IsRoot}
use Rattle.program_form.specs.Statements.{IsAt, HasOpcode, NamesClass, NamesMember, NamesDescriptor, CallType, FieldTypeAt, IsInstance}
use Rattle.constraint_form.specs.Asked.{IsReadProgram}
use Rattle.constraint_form.proofs.OnePlace.{same_or_before}

module _ (p : Program) (asked : IsReadProgram p) where
  pub one_body : (a b : Body) → Contains p.bodies a → Contains p.bodies b → a.method ≡ b.method → a ≡ b
  one_body a b c d e =
      let x = index_in p.bodies a c in
      let y = index_in p.bodies b d in
      let method : a.method.0 ≡ b.method.0 = ap (λ (m : MethodId). m.0) e in
      let same : x.0 ≡ y.0 = same_or_before (λ (u v : Body). u.method.0 < v.method.0) p.bodies asked.bodies x.0 y.0 a b x.1 y.1 (λ lt. omega (arith, lt, method)) (λ lt. omega (arith, lt, method)) in
      same_Some a b (sym (subst (λ k. slice_get p.bodies k ≡ Some a) same x.1) ∙ y.1)

  one_instruction : (b : Body) (i j : Instr) → Contains p.bodies b → Contains b.instrs i → Contains b.instrs j → i.pc ≡ j.pc → i ≡ j
  one_instruction b i j has c d e =
      let x = index_in b.instrs i c in
      let y = index_in b.instrs j d in
      let same : x.0 ≡ y.0 = same_or_before (λ (u v : Instr). u.pc < v.pc) b.instrs (asked.instructions b has) x.0 y.0 i j x.1 y.1 (λ lt. omega (arith, lt, e)) (λ lt. omega (arith, lt, e)) in
      same_Some i j (sym (subst (λ k. slice_get b.instrs k ≡ Some i) same x.1) ∙ y.1)

  -- one instruction of one body stands at a statement
  pub one_at : (s : Statement) (a b : Body) (i j : Instr) → IsAt p s a i → IsAt p s b j → (a ≡ b) × (i ≡ j)
  one_at s a b i j x y =
      let body = one_body a b x.0 y.0 (x.1 ∙ sym y.1) in
      (body, one_instruction b i j y.0 (subst (λ (z : Body). Contains z.instrs i) body x.2) y.2 (x.3 ∙ sym y.3))

  pub both : (s : Statement) (K L : ℕ → Type 0) → HasOpcode p s K → HasOpcode p s L → HasOpcode p s (λ op. K op × L op)
  both s K L (a, i, at, is) (b, j, there, has) =
      let one = one_at s a b i j at there in
      (a, i, at, (is, subst (λ (x : Instr). L x.op) (sym one.1) has))

  -- no opcode is of both kinds
  pub apart : (s : Statement) (K L : ℕ → Type 0) → ((op : ℕ) → K op → L op → ⊥) → HasOpcode p s K → HasOpcode p s L → ⊥
  apart s K L never x y = let z = both s K L x y in never z.1.op z.3.0 z.3.1

  pub kind : (s : Statement) (K L : ℕ → Type 0) → ((op : ℕ) → K op → L op) → HasOpcode p s K → HasOpcode p s L
  kind s K L f (b, i, at, is) = (b, i, at, f i.op is)

  -- its method has a number, and isn't the root
  pub in_range : (s : Statement) (K : ℕ → Type 0) → HasOpcode p s K → s.method.0 < length p.methods
  in_range s K (b, i, at, is) =
      let (c, (d, x, n, bytes, method, code)) = asked.coded b at.0 in
      let lt = slice_get_within p.methods b.method.0 d method.0 in
      subst (λ (m : MethodId). m.0 < length p.methods) at.1 lt

  pub no_root : (s : Statement) (K : ℕ → Type 0) → HasOpcode p s K → IsRoot p s.method → ⊥
  no_root s K h root = omega (arith, in_range s K h, root)

  -- of one class file
  pub one_class_file : (m : MethodId) (c d : ℕ) (j k : ClassFile) → ClassOf p m c j → ClassOf p m d k → (c ≡ d) × (j ≡ k)
  one_class_file m c d j k x y =
      let declared = same_Some x.0 y.0 (sym x.1 ∙ y.1) in
      let same : c ≡ d = x.2 ∙ ap (λ (z : Declared). z.class) declared ∙ sym y.2 in
      (same, same_Some j k (sym (subst (λ n. IsClass p.classes n j) same x.3) ∙ y.3))

  -- which names one member, one descriptor, one class
  pub one_member : (s : Statement) (k l : MemberKey) → NamesMember p s k → NamesMember p s l → k ≡ l
  one_member s k l (a, i, c, f, at, of, is) (b, j, d, g, there, from, has) =
      let one = one_at s a b i j at there in
      let file = one_class_file s.method c d f g of from in
      same_Some k l (sym (subst (λ (x : Instr). member_at g.pool x.index ≡ Some k) one.1 (subst (λ (x : ClassFile). member_at x.pool i.index ≡ Some k) file.1 is)) ∙ has)

  pub one_descriptor : (s : Statement) (k l : List ℕ) → NamesDescriptor p s k → NamesDescriptor p s l → k ≡ l
  one_descriptor s k l (a, i, c, f, at, of, is) (b, j, d, g, there, from, has) =
      let one = one_at s a b i j at there in
      let file = one_class_file s.method c d f g of from in
      same_Some k l (sym (subst (λ (x : Instr). descriptor_at g.pool x.index ≡ Some k) one.1 (subst (λ (x : ClassFile). descriptor_at x.pool i.index ≡ Some k) file.1 is)) ∙ has)

  pub one_class_name : (s : Statement) (k l : List ℕ) → NamesClass p s k → NamesClass p s l → k ≡ l
  one_class_name s k l (a, i, c, f, at, of, is) (b, j, d, g, there, from, has) =
      let one = one_at s a b i j at there in
      let file = one_class_file s.method c d f g of from in
      same_Some k l (sym (subst (λ (x : Instr). class_at g.pool x.index ≡ Some k) one.1 (subst (λ (x : ClassFile). class_at x.pool i.index ≡ Some k) file.1 is)) ∙ has)

  pub one_call_type : (s : Statement) (t u : MethodType) → CallType p s t → CallType p s u → t ≡ u
  one_call_type s t u x y =
      let same = one_descriptor s x.1 y.1 x.2 y.2 in
      one_method_type y.1 t u (subst (λ bytes. IsMethodType bytes t) same x.3) y.3

  pub one_type_at : (s : Statement) (t u : FieldType) → FieldTypeAt p s t → FieldTypeAt p s u → t ≡ u
  one_type_at s t u x y =
      let same = one_descriptor s x.0 y.0 x.1 y.1 in
      one_field_type y.0 t u (subst (λ bytes. IsFieldType bytes t) same x.2) y.2

  -- a call has a receiver, or has none
  pub one_instance : (s : Statement) (a b : Bool) → IsInstance p s a → IsInstance p s b → a ≡ b
  one_instance s true true x y = refl
  one_instance s false false x y = refl
  one_instance s true false x y = absurd (apart s IsInstanceCall (λ op. IsCall op × (IsInstanceCall op → ⊥)) (λ op i n. n.1 i) x y)
  one_instance s false true x y = absurd (apart s IsInstanceCall (λ op. IsCall op × (IsInstanceCall op → ⊥)) (λ op i n. n.1 i) y x)

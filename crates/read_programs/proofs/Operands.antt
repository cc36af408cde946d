-- A call takes its arguments and nothing else.
use Rattle.std.proofs.Common.{◌≡◌, ◌⊎◌, ◌<◌, ℕ, suc, Bool, true, false, List, map, length, All, inl, inr, refl, sym, ap, subst, ◌∙◌, arith}
use Rattle.std.proofs.lemmas.Bool.{cases_lt}
use Rattle.std.proofs.lemmas.Option.{slice_get_within}
use Rattle.std.proofs.lemmas.List.{length-map}
use Rattle.std.proofs.lemmas.List.Elements.{All-contains}
use Rattle.slicer_ids.specs.declared.ids.Statement.{Statement}
use Rattle.class_form.specs.ClassRules.{IsClassFile}
use Rattle.class_form.specs.Opcodes.{IsCall, IsInstanceCall}
use Rattle.class_form.specs.Reaching.{HoldsIn}
use Rattle.class_form.specs.Shapes.{Uses}
use Rattle.class_form.specs.Table.{opcode_of}
use Rattle.class_form.specs.Types.{width, is_reference}
use Rattle.class_form.specs.Instructions.{Stands, TakesOperands, CallAt, value, values_of}
use Rattle.class_form.specs.declared.opcode.Takes.{Takes}
use Rattle.class_form.specs.declared.opcode.Takes.TheVariants.{Arguments, ReceiverAndArguments}
use Rattle.class_form.specs.declared.pool.Pool.{Pool}
use Rattle.class_form.specs.declared.types.FieldType.{FieldType}
use Rattle.class_form.specs.declared.types.MethodType.{MethodType}
use Rattle.class_form.specs.declared.body.Body.{Body}
use Rattle.class_form.specs.declared.body.Instr.{Instr}
use Rattle.class_form.specs.declared.body.Def.{Def}
use Rattle.program_form.specs.Programs.{Program, references_of}
use Rattle.program_form.specs.Statements.{IsAt, HasOpcode, OperandIs, CallType, IsInstance}
use Rattle.program_code.specs.Codes.{IsOfMethod, IsProgramOfCode}
use Rattle.program_code.proofs.OneInstruction.{one_at}
use Rattle.program_code.proofs.Naming.{one_call_type}
use Rattle.read_programs.proofs.Placing.{placed}

-- OPERANDS BY THE TABLE

takes_182 : (opcode_of 182).takes ≡ ReceiverAndArguments
unfolding opcode_of
takes_182 = refl

takes_183 : (opcode_of 183).takes ≡ ReceiverAndArguments
unfolding opcode_of
takes_183 = refl

takes_184 : (opcode_of 184).takes ≡ Arguments
unfolding opcode_of
takes_184 = refl

takes_185 : (opcode_of 185).takes ≡ ReceiverAndArguments
unfolding opcode_of
takes_185 = refl

takes_186 : (opcode_of 186).takes ≡ Arguments
unfolding opcode_of
takes_186 = refl

by_line : (op line : ℕ) (takes : Takes) → op ≡ line → (opcode_of line).takes ≡ takes → (opcode_of op).takes ≡ takes
by_line op line takes e h = subst (λ n. (opcode_of n).takes ≡ takes) (sym e) h

instance_takes : (op : ℕ) → IsInstanceCall op → (opcode_of op).takes ≡ ReceiverAndArguments
instance_takes op (inl (inl e)) = by_line op 182 ReceiverAndArguments e takes_182
instance_takes op (inl (inr e)) = by_line op 185 ReceiverAndArguments e takes_185
instance_takes op (inr e) = by_line op 183 ReceiverAndArguments e takes_183

other_calls : (op : ℕ) → IsCall op → (IsInstanceCall op → ⊥) → (op ≡ 184) ⊎ (op ≡ 186)
other_calls op call never = elim (cases_lt op 184) [
  | inl low ↦ elim (cases_lt op 183) [
    | inl lower ↦ absurd (never (inl (inl (omega (arith, call, lower)))))
    | inr is ↦ absurd (never (inr (omega (arith, low, is))))
  ]
  | inr high ↦ elim (cases_lt op 185) [
    | inl is ↦ inl (omega (arith, high, is))
    | inr higher ↦ elim (cases_lt op 186) [
      | inl is ↦ absurd (never (inl (inr (omega (arith, higher, is)))))
      | inr last ↦ inr (omega (arith, call, last))
    ]
  ]
]

-- whether a call has a receiver, by its opcode
abbrev KindIs : Bool → ℕ → Type 0
KindIs true op = IsInstanceCall op
KindIs false op = IsCall op × (IsInstanceCall op → ⊥)

other_takes : (op : ℕ) → (op ≡ 184) ⊎ (op ≡ 186) → (opcode_of op).takes ≡ Arguments
other_takes op (inl e) = by_line op 184 Arguments e takes_184
other_takes op (inr e) = by_line op 186 Arguments e takes_186

no_receiver : (op : ℕ) → (op ≡ 184) ⊎ (op ≡ 186) → IsInstanceCall op → ⊥
no_receiver op (inl e) (inl (inl x)) = omega (arith, e, x)
no_receiver op (inl e) (inl (inr x)) = omega (arith, e, x)
no_receiver op (inl e) (inr x) = omega (arith, e, x)
no_receiver op (inr e) (inl (inl x)) = omega (arith, e, x)
no_receiver op (inr e) (inl (inr x)) = omega (arith, e, x)
no_receiver op (inr e) (inr x) = omega (arith, e, x)

-- a call has a receiver or has none
kind_of_call : (op : ℕ) → IsCall op → (instance : Bool) × KindIs instance op
kind_of_call op call = elim (cases_lt op 184) [
  | inl low ↦ elim (cases_lt op 183) [
    | inl lower ↦ (true, inl (inl (omega (arith, call, lower))))
    | inr is ↦ (true, inr (omega (arith, low, is)))
  ]
  | inr high ↦ elim (cases_lt op 185) [
    | inl is ↦ (false, (call, no_receiver op (inl (omega (arith, high, is)))))
    | inr higher ↦ elim (cases_lt op 186) [
      | inl is ↦ (true, inl (inr (omega (arith, higher, is))))
      | inr last ↦ (false, (call, no_receiver op (inr (omega (arith, call, last)))))
    ]
  ]
]

-- AS MANY AS THE TYPE HAS ARGUMENTS

-- the call has a type, and so many operands
pub record IsCounted (pool : Pool) (instance : Bool) (i : Instr) : Type 0 where
  pub type : MethodType
  pub call : CallAt pool i.index type
  pub count : length i.takes ≡ length (references_of instance type)

as_many : (m : MethodType) → length (values_of m) ≡ length (map is_reference m.arguments)
as_many m = length-map m.arguments (λ (t : FieldType). value (width t)) ∙ sym (length-map m.arguments is_reference)

with_receiver : (pool : Pool) (i : Instr) → TakesOperands pool i.index i.dims ReceiverAndArguments i.takes → IsCounted pool true i
with_receiver pool i h = record { type = h.0; call = h.1; count = ap length h.2 ∙ ap suc (as_many h.0) }

without_receiver : (pool : Pool) (i : Instr) → TakesOperands pool i.index i.dims Arguments i.takes → IsCounted pool false i
without_receiver pool i h = record { type = h.0; call = h.1; count = ap length h.2 ∙ as_many h.0 }

counted : (code : List ℕ) (pool : Pool) (pc : ℕ) (i : Instr) (instance : Bool) → Stands code pool pc i → KindIs instance i.op → IsCounted pool instance i
counted code pool pc i true stands is = with_receiver pool i (subst (λ t. TakesOperands pool i.index i.dims t i.takes) (instance_takes i.op is) stands.takes)
counted code pool pc i false stands is =
    without_receiver pool i (subst (λ t. TakesOperands pool i.index i.dims t i.takes) (other_takes i.op (other_calls i.op is.0 is.1)) stands.takes)

module _ (p : Program) (coded : IsProgramOfCode p) (sound : All IsClassFile p.classes) (s : Statement) where
  kind_at : (b : Body) (i : Instr) (instance : Bool) → IsAt p s b i → IsInstance p s instance → KindIs instance i.op
  kind_at b i true at (a, j, there, is) = subst (λ (x : Instr). IsInstanceCall x.op) (one_at p coded s a b j i there at).1 is
  kind_at b i false at (a, j, there, is) = subst (λ (x : Instr). KindIs false x.op) (one_at p coded s a b j i there at).1 is

  -- an operand that something holds in is one of the instruction's
  operand_of : (b : Body) (i : Instr) (n : ℕ) (d : Def) → IsAt p s b i → HoldsIn b.shape s.pc n d → n < length i.takes
  operand_of b i n d at (q, point, u, used, is, holds) =
      let h : IsOfMethod p b = All-contains (IsOfMethod p) p.bodies b coded.bodies at.0 in
      let depths = h.9.shape.2.depths in
      let of = depths.2.each q point.0 in
      let here : IsAt p s b of.0 = (at.0, at.1, of.1.0, sym of.2.pc ∙ point.1, at.4) in
      let same : i ≡ of.0 = (one_at p coded s b b i of.0 at here).1 in
      let taken : Uses h.5 of.0 q.depth u = All-contains (Uses h.5 of.0 q.depth) q.uses u of.2.uses.each used in
      let lt = slice_get_within of.0.takes u.operand taken.0 taken.1 in
      subst (λ k. k < length i.takes) is (subst (λ (x : Instr). u.operand < length x.takes) (sym same) lt)

  pub operands_fit : (t : MethodType) (instance : Bool) (n : ℕ) (d : Def) → CallType p s t → IsInstance p s instance → OperandIs p s n d → n < length (references_of instance t)
  operands_fit t instance n d call is (b, i, at, holds) =
      let c = placed p coded sound s b i at in
      let k = counted c.code.code c.file.pool s.pc i instance c.stands (kind_at b i instance at is) in
      let type : CallType p s k.type = (call.0, k.call.0, (b, i, c.number, c.file, at, c.of_class, k.call.1), k.call.2) in
      let same : k.type ≡ t = one_call_type p coded s k.type t type call in
      subst (λ (m : MethodType). n < length (references_of instance m)) same (subst (λ l. n < l) k.count (operand_of b i n d at holds))

  -- a call has a type
  pub call_type : HasOpcode p s IsCall → (t : MethodType) × CallType p s t
  call_type (b, i, at, is) =
      let c = placed p coded sound s b i at in
      let (instance, kind) = kind_of_call i.op is in
      let k = counted c.code.code c.file.pool s.pc i instance c.stands kind in
      (k.type, ((b, i, at, is), k.call.0, (b, i, c.number, c.file, at, c.of_class, k.call.1), k.call.2))

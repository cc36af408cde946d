-- An operand that is a base is one of an access: a field, an element or a length.
use Rattle.std.proofs.Common.{◌≡◌, ◌⊎◌, ◌≤◌, ℕ, Bool, true, false, List, [], ◌∷◌, All, Some, inl, inr, refl, sym, ◌∙◌, arith}
use Rattle.std.specs.Prelude.{◌&&◌, ◌||◌, nat_le, if◌then◌else◌, slice_get}
use Rattle.std.proofs.lemmas.Bool.{and_parts, cases_eq}
use Rattle.std.proofs.lemmas.Bool.Decides.{nat_tests}
use Rattle.std.proofs.lemmas.List.Elements.{All-nil, All-cons, All-map, All-replicate, All-same, All-contains}
use Rattle.slicer_ids.specs.declared.ids.Statement.{Statement}
use Rattle.class_form.specs.Table.{Line, table, opcode_in, opcode_of}
use Rattle.class_form.specs.Instructions.{TakesOperands, Stands, value, base, values_of}
use Rattle.class_form.specs.Shapes.{Uses}
use Rattle.class_form.specs.Types.{width}
use Rattle.class_form.specs.declared.pool.Pool.{Pool}
use Rattle.class_form.specs.declared.types.FieldType.{FieldType}
use Rattle.class_form.specs.declared.types.MethodType.{MethodType}
use Rattle.class_form.specs.declared.body.Def.{Def}
use Rattle.class_form.specs.declared.body.Instr.{Instr}
use Rattle.class_form.specs.declared.body.Operand.{Operand}
use Rattle.class_form.specs.declared.body.SlotUse.{SlotUse}
use Rattle.class_form.specs.declared.opcode.Opcode.{Opcode}
use Rattle.class_form.specs.declared.opcode.Takes.{Takes}
use Rattle.class_form.specs.declared.opcode.Takes.TheVariants as taking
use Rattle.class_form.proofs.Indices.{there_at}
use Rattle.program_form.specs.Programs.{Program}
use Rattle.program_form.specs.Statements.{IsAt, HasOpcode}
use Rattle.program_form.specs.Dependences.{Takes as TakesAt}
use Rattle.program_form.specs.Values.{IsAccessOpcode}
use Rattle.program_code.specs.Codes.{IsProgramOfCode}
use Rattle.program_code.proofs.OneInstruction.{coded_body, stands}

-- THE TABLE

abbrev reaches : Takes → Bool
reaches taking.Base = true
reaches taking.Element = true
reaches (taking.ElementAndValue w) = true
reaches taking.BaseAndFieldValue = true
reaches takes = false

-- all opcodes from the first to the last are of accesses
abbrev of_access : ℕ → ℕ → Bool
of_access low high =
    (nat_le 46 low && nat_le high 53) || ((nat_le 79 low && nat_le high 86) || ((nat_le 180 low && nat_le high 181) || (nat_le 190 low && nat_le high 190)))

abbrev fits : Line → Bool
fits l = if reaches l.opcode.takes then of_access l.first l.last else true

abbrev all_fit : List Line → Bool
all_fit [] = true
all_fit (l ∷ ls) = fits l && all_fit ls

either : (a b : Bool) → (a || b) ≡ true → (a ≡ true) ⊎ (b ≡ true)
either true b e = inl refl
either false b e = inr e

at_most : (a b : ℕ) → nat_le a b ≡ true → a ≤ b
at_most a b e = grind (arith, nat_tests)

field_or_array : (op : ℕ) → 180 ≤ op → op ≤ 181 → IsAccessOpcode op
field_or_array op low high = by_first (first op low high)
  where
    first : (op : ℕ) → 180 ≤ op → op ≤ 181 → (op ≡ 180) ⊎ (op ≡ 181)
    first op low high = elim (cases_eq op 180) [ inl e ↦ inl e | inr ne ↦ inr (omega (arith, low, high, ne)) ]

    by_first : (op ≡ 180) ⊎ (op ≡ 181) → IsAccessOpcode op
    by_first (inl e) = inl e
    by_first (inr e) = inr (inl e)

within : (low high op : ℕ) → of_access low high ≡ true → low ≤ op → op ≤ high → IsAccessOpcode op
within low high op e a b = elim (either (nat_le 46 low && nat_le high 53) _ e) [
  | inl loads ↦
      let p = and_parts (nat_le 46 low) (nat_le high 53) loads in
      inr (inr (inl (omega (arith, at_most 46 low p.0, a), omega (arith, at_most high 53 p.1, b))))
  | inr more ↦ elim (either (nat_le 79 low && nat_le high 86) _ more) [
    | inl stores ↦
        let p = and_parts (nat_le 79 low) (nat_le high 86) stores in
        inr (inr (inr (inl (omega (arith, at_most 79 low p.0, a), omega (arith, at_most high 86 p.1, b)))))
    | inr rest ↦ elim (either (nat_le 180 low && nat_le high 181) _ rest) [
      | inl fields ↦
          let p = and_parts (nat_le 180 low) (nat_le high 181) fields in
          field_or_array op (omega (arith, at_most 180 low p.0, a)) (omega (arith, at_most high 181 p.1, b))
      | inr last ↦
          let p = and_parts (nat_le 190 low) (nat_le high 190) last in
          inr (inr (inr (inr (omega (arith, at_most 190 low p.0, at_most high 190 p.1, a, b)))))
    ]
  ]
]

if_true : (b : Bool) (x : Bool) → b ≡ true → (if b then x else true) ≡ true → x ≡ true
if_true true x e h = h
if_true false x e h = absurd cc

by_choice : (l : Line) (rest : Opcode) (op : ℕ) → fits l ≡ true → (reaches rest.takes ≡ true → IsAccessOpcode op) → (b : Bool) → (nat_le l.first op && nat_le op l.last) ≡ b → reaches (if b then l.opcode else rest).takes ≡ true
    → IsAccessOpcode op
by_choice l rest op fit later true e r =
    let range = and_parts (nat_le l.first op) (nat_le op l.last) e in
    within l.first l.last op (if_true (reaches l.opcode.takes) (of_access l.first l.last) r fit) (at_most l.first op range.0) (at_most op l.last range.1)
by_choice l rest op fit later false e r = later r

in_lines : (ls : List Line) (op : ℕ) → all_fit ls ≡ true → reaches (opcode_in ls op).takes ≡ true → IsAccessOpcode op
in_lines [] op h r = absurd cc
in_lines (l ∷ ls) op h r =
    let p = and_parts (fits l) (all_fit ls) h in
    by_choice l (opcode_in ls op) op p.0 (λ more. in_lines ls op p.1 more) (nat_le l.first op && nat_le op l.last) refl r

of_opcode : (op : ℕ) → reaches (opcode_of op).takes ≡ true → IsAccessOpcode op
unfolding opcode_of
of_opcode op r = in_lines table op refl r

-- OPERANDS

abbrev IsPlain : Operand → Type 0
IsPlain o = o.base ≡ false

values_plain : (m : MethodType) → All IsPlain (values_of m)
values_plain m = All-map IsPlain (λ (t : FieldType). value (width t)) m.arguments (λ (k : ℕ) (d : FieldType) lt. refl)

one : (o : Operand) → IsPlain o → All IsPlain (o ∷ [])
one o h = All-cons IsPlain o [] h (All-nil IsPlain)

plain_operands : (pool : Pool) (i dims : ℕ) (takes : Takes) (ops : List Operand) → TakesOperands pool i dims takes ops → (reaches takes ≡ true) ⊎ All IsPlain ops
plain_operands pool i dims taking.Nothing ops h = inr (All-same IsPlain ops [] h (All-nil IsPlain))
plain_operands pool i dims (taking.Local w) ops h = inr (All-same IsPlain ops _ h (one (value w) refl))
plain_operands pool i dims (taking.Value w) ops h = inr (All-same IsPlain ops _ h (one (value w) refl))
plain_operands pool i dims (taking.Two v w) ops h = inr (All-same IsPlain ops _ h (All-cons IsPlain (value v) (value w ∷ []) refl (one (value w) refl)))
plain_operands pool i dims taking.Base ops h = inl refl
plain_operands pool i dims taking.Element ops h = inl refl
plain_operands pool i dims (taking.ElementAndValue w) ops h = inl refl
plain_operands pool i dims taking.FieldValue ops h = inr (All-same IsPlain ops _ h.2 (one (value (width h.0)) refl))
plain_operands pool i dims taking.BaseAndFieldValue ops h = inl refl
plain_operands pool i dims taking.Arguments ops h = inr (All-same IsPlain ops _ h.2 (values_plain h.0))
plain_operands pool i dims taking.ReceiverAndArguments ops h = inr (All-same IsPlain ops _ h.2 (All-cons IsPlain (value 1) (values_of h.0) refl (values_plain h.0)))
plain_operands pool i dims taking.Lengths ops h = inr (All-same IsPlain ops _ h (All-replicate IsPlain dims (value 1) refl))

-- the operand of an instruction that stands in a code
by_operand : (code : List ℕ) (pool : Pool) (pc : ℕ) (i : Instr) (k : ℕ) (o : Operand) → Stands code pool pc i → slice_get i.takes k ≡ Some o → o.base ≡ true → IsAccessOpcode i.op
by_operand code pool pc i k o stands at is = elim (plain_operands pool i.index i.dims (opcode_of i.op).takes i.takes stands.takes) [
  | inl r ↦ of_opcode i.op r
  | inr plain ↦ absurd (let e : o.base ≡ false = All-contains IsPlain i.takes o plain (there_at i.takes k o at) in cc)
]

module _ (p : Program) (coded : IsProgramOfCode p) (t : Statement) (u : SlotUse) where
  -- the use of a base is one of an access
  pub base_access : (d : Def) → TakesAt p t u d → u.base ≡ true → HasOpcode p t IsAccessOpcode
  base_access d (b, i, point, is, at_point, uses, holds) base =
      let c = coded_body p coded b is.0 in
      let points = c.is.shape.2.depths.2 in
      let other = points.each point at_point.0 in
      let used = All-contains (Uses c.code other.0 point.depth) point.uses u other.2.uses.each uses in
      let there : IsAt p t b other.0 = (is.0, is.1, other.1.0, sym other.2.pc ∙ at_point.1, (point, at_point)) in
      let stands_there = stands c.code.code c.class.pool 0 b.instrs _ other.0 c.is.instrs other.1.0 in
      (b, other.0, there, by_operand c.code.code c.class.pool other.0.pc other.0 u.operand used.0 stands_there used.1 (sym used.2 ∙ base))

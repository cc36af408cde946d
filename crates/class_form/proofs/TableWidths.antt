-- Operands and results take two slots at most, and an instruction has few operands.
use Rattle.std.proofs.Common.{◌≡◌, ℕ, ◌<◌, ◌≤◌, Bool, true, false, cond, List, [], ◌∷◌, length, All, Option, Some, None, refl, ap, arith}
use Rattle.std.specs.Prelude.{◌&&◌, nat_le, if◌then◌else◌, slice_index_or}
use Rattle.std.specs.Option.{option_map_or}
use Rattle.std.proofs.lemmas.Bool.{and_parts}
use Rattle.std.proofs.lemmas.Bool.Decides.{nat_tests}
use Rattle.std.proofs.lemmas.List.{length-map, length-replicate}
use Rattle.std.proofs.lemmas.List.Elements.{All-nil, All-cons, All-map, All-replicate, All-same}
use Rattle.std.proofs.lemmas.List.Sums.{sum_by-cons}
use Rattle.class_form.specs.Table.{Line, table, opcode_in, opcode_of}
use Rattle.class_form.specs.Types.{width, slots}
use Rattle.class_form.specs.Instructions.{TakesOperands, LeavesSlots, value, base, values_of}
use Rattle.class_form.specs.declared.pool.Pool.{Pool}
use Rattle.class_form.specs.declared.types.FieldType.{FieldType}
use Rattle.class_form.specs.declared.types.MethodType.{MethodType}
use Rattle.class_form.specs.declared.body.Operand.{Operand}
use Rattle.class_form.specs.declared.opcode.Opcode.{Opcode}
use Rattle.class_form.specs.declared.opcode.Takes.{Takes}
use Rattle.class_form.specs.declared.opcode.Takes.TheVariants.{Nothing, Local, Value, Two, Base, Element, ElementAndValue, FieldValue, BaseAndFieldValue, Arguments, ReceiverAndArguments, Lengths}
use Rattle.class_form.specs.declared.opcode.Leaves.{Leaves}
use Rattle.class_form.specs.declared.opcode.Leaves.TheVariants.{Slots, FieldValue as OfField, Result}
use Rattle.class_form.proofs.DescriptorsRead.{width_some}

-- THE TABLE

abbrev pub takes_narrow : Takes → Bool
takes_narrow (Local w) = nat_le w 2
takes_narrow (Value w) = nat_le w 2
takes_narrow (Two v w) = nat_le v 2 && nat_le w 2
takes_narrow (ElementAndValue w) = nat_le w 2
takes_narrow takes = true

abbrev pub leaves_narrow : Leaves → Bool
leaves_narrow (Slots n) = nat_le n 2
leaves_narrow leaves = true

abbrev narrow : Opcode → Bool
narrow o = takes_narrow o.takes && leaves_narrow o.leaves

abbrev all_narrow : List Line → Bool
all_narrow [] = true
all_narrow (l ∷ ls) = narrow l.opcode && all_narrow ls

choice : (b : Bool) (x y : Opcode) → narrow x ≡ true → narrow y ≡ true → narrow (if b then x else y) ≡ true
choice true x y h k = h
choice false x y h k = k

narrow_in : (ls : List Line) (op : ℕ) → all_narrow ls ≡ true → narrow (opcode_in ls op) ≡ true
narrow_in [] op h = refl
narrow_in (l ∷ ls) op h =
    let p = and_parts (narrow l.opcode) (all_narrow ls) h in
    choice (nat_le l.first op && nat_le op l.last) l.opcode (opcode_in ls op) p.0 (narrow_in ls op p.1)

table_narrow : (op : ℕ) → narrow (opcode_of op) ≡ true
unfolding opcode_of
table_narrow op = narrow_in table op refl

pub table_takes : (op : ℕ) → takes_narrow (opcode_of op).takes ≡ true
table_takes op = (and_parts (takes_narrow (opcode_of op).takes) (leaves_narrow (opcode_of op).leaves) (table_narrow op)).0

pub table_leaves : (op : ℕ) → leaves_narrow (opcode_of op).leaves ≡ true
table_leaves op = (and_parts (takes_narrow (opcode_of op).takes) (leaves_narrow (opcode_of op).leaves) (table_narrow op)).1

-- WIDTHS

abbrev IsNarrow : Operand → Type 0
IsNarrow o = o.slots ≤ 2

one_or_two : (b : Bool) → cond b 2 1 ≤ 2
one_or_two true = omega arith
one_or_two false = omega arith

width_few : (t : FieldType) → width t ≤ 2
width_few t = one_or_two _

at_most : (w : ℕ) → nat_le w 2 ≡ true → w ≤ 2
at_most w e = grind (arith, nat_tests)

values_narrow : (m : MethodType) → All IsNarrow (values_of m)
values_narrow m =
    All-map IsNarrow (λ (t : FieldType). value (width t)) m.arguments (λ (k : ℕ) (d : FieldType) lt. width_few (slice_index_or m.arguments k d))

one : (o : Operand) → IsNarrow o → All IsNarrow (o ∷ [])
one o h = All-cons IsNarrow o [] h (All-nil IsNarrow)

pub operands_narrow : (pool : Pool) (i dims : ℕ) (takes : Takes) (ops : List Operand) → takes_narrow takes ≡ true → TakesOperands pool i dims takes ops → All (λ (o : Operand). o.slots ≤ 2) ops
operands_narrow pool i dims Nothing ops n h = All-same IsNarrow ops [] h (All-nil IsNarrow)
operands_narrow pool i dims (Local w) ops n h = All-same IsNarrow ops _ h (one (value w) (at_most w n))
operands_narrow pool i dims (Value w) ops n h = All-same IsNarrow ops _ h (one (value w) (at_most w n))
operands_narrow pool i dims (Two v w) ops n h =
    let p = and_parts (nat_le v 2) (nat_le w 2) n in
    All-same IsNarrow ops _ h (All-cons IsNarrow (value v) (value w ∷ []) (at_most v p.0) (one (value w) (at_most w p.1)))
operands_narrow pool i dims Base ops n h = All-same IsNarrow ops _ h (one base (omega arith))
operands_narrow pool i dims Element ops n h = All-same IsNarrow ops _ h (All-cons IsNarrow base (base ∷ []) (omega arith) (one base (omega arith)))
operands_narrow pool i dims (ElementAndValue w) ops n h =
    All-same IsNarrow ops _ h (All-cons IsNarrow base (base ∷ value w ∷ []) (omega arith) (All-cons IsNarrow base (value w ∷ []) (omega arith) (one (value w) (at_most w n))))
operands_narrow pool i dims FieldValue ops n h = All-same IsNarrow ops _ h.2 (one (value (width h.0)) (width_few h.0))
operands_narrow pool i dims BaseAndFieldValue ops n h =
    All-same IsNarrow ops _ h.2 (All-cons IsNarrow base (value (width h.0) ∷ []) (omega arith) (one (value (width h.0)) (width_few h.0)))
operands_narrow pool i dims Arguments ops n h = All-same IsNarrow ops _ h.2 (values_narrow h.0)
operands_narrow pool i dims ReceiverAndArguments ops n h = All-same IsNarrow ops _ h.2 (All-cons IsNarrow (value 1) (values_of h.0) (omega arith) (values_narrow h.0))
operands_narrow pool i dims Lengths ops n h = All-same IsNarrow ops _ h (All-replicate IsNarrow dims (value 1) (omega arith))

result_few : (r : Option FieldType) (n : ℕ) → n ≡ option_map_or width r 0 → n ≤ 2
result_few None n e = omega (arith, e)
result_few (Some t) n e = omega (arith, e, width_few t)

pub results_narrow : (pool : Pool) (i : ℕ) (leaves : Leaves) (n : ℕ) → leaves_narrow leaves ≡ true → LeavesSlots pool i leaves n → n ≤ 2
results_narrow pool i (Slots w) n e h = omega (arith, at_most w e, h)
results_narrow pool i OfField n e h = omega (arith, width_few h.0, h.2)
results_narrow pool i Result n e h = result_few h.0.result n h.2

-- HOW MANY

count_slots : (ts : List FieldType) → length ts ≤ slots ts
count_slots [] = omega arith
count_slots (t ∷ ts) = omega (arith, count_slots ts, sum_by-cons width t ts, width_some t)

values_few : (m : MethodType) → slots m.arguments ≤ 255 → length (values_of m) ≤ 255
values_few m le = omega (arith, length-map m.arguments (λ (t : FieldType). value (width t)), count_slots m.arguments, le)

pub operands_few : (pool : Pool) (i dims : ℕ) (takes : Takes) (ops : List Operand) → dims < 256 → TakesOperands pool i dims takes ops → length ops ≤ 256
operands_few pool i dims FieldValue ops lt h = omega (arith, ap length h.2)
operands_few pool i dims BaseAndFieldValue ops lt h = omega (arith, ap length h.2)
operands_few pool i dims Arguments ops lt h = omega (arith, ap length h.2, values_few h.0 h.1.2.1)
operands_few pool i dims ReceiverAndArguments ops lt h = omega (arith, ap length h.2, values_few h.0 h.1.2.1)
operands_few pool i dims Lengths ops lt h = omega (arith, ap length h, length-replicate dims (value 1))
operands_few pool i dims takes ops lt h = omega (arith, ap length h)

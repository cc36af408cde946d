-- The table's columns fit each other: what takes or leaves a value of a field's type names a field, and so for calls.
use Rattle.std.proofs.Common.{◌≡◌, ℕ, ◌+◌, ◌<◌, ◌≤◌, Bool, true, false, List, [], ◌∷◌, length, Option, Some, if◌then◌else◌, nat_lt, nat_le, ◌&&◌, not, refl, ap, arith}
use Rattle.std.proofs.lemmas.Bool.{and_parts, false≢true}
use Rattle.std.proofs.lemmas.Bool.Decides.{nat_tests}
use Rattle.class_form.specs.Table.{opcode_of, opcode_in, table, Line}
use Rattle.class_form.specs.Instructions.{FieldAt, CallAt, TakesOperands, LeavesSlots, kind_of, is_wide, op_at, form_at, widened, is_undefined, is_known, Passes, checks, head_size}
use Rattle.class_form.specs.declared.pool.Pool.{Pool}
use Rattle.class_form.specs.declared.types.FieldType.{FieldType}
use Rattle.class_form.specs.declared.types.MethodType.{MethodType}
use Rattle.class_form.specs.declared.opcode.Opcode.{Opcode}
use Rattle.class_form.specs.declared.opcode.ConstantKind.{ConstantKind}
use Rattle.class_form.specs.declared.opcode.ConstantKind.TheVariants.{Field, Method, InterfaceMethod, Dynamic}
use Rattle.class_form.specs.declared.opcode.Form.{Form}
use Rattle.class_form.specs.declared.opcode.Form.TheVariants.{Local, Increment, SubroutineReturn, Wide}
use Rattle.class_form.specs.declared.opcode.Takes.{Takes}
use Rattle.class_form.specs.declared.opcode.Takes.TheVariants.{FieldValue, BaseAndFieldValue, Arguments, ReceiverAndArguments}
use Rattle.class_form.specs.declared.opcode.Leaves.{Leaves}
use Rattle.class_form.specs.declared.opcode.Leaves.TheVariants.{FieldValue as OfField, Result}
use Rattle.bytecode.specs.declared.descriptors.Described.{Described}
use Rattle.bytecode.specs.declared.descriptors.Described.TheVariants.{Nothing as NoType, Field as OneField, Call as OneCall}
use Rattle.bytecode.specs.Parts.{Describes, operands_of, slots_left}

abbrev is_field_kind : Option ConstantKind → Bool
is_field_kind (Some Field) = true
is_field_kind k = false

abbrev is_call_kind : Option ConstantKind → Bool
is_call_kind (Some Method) = true
is_call_kind (Some InterfaceMethod) = true
is_call_kind (Some Dynamic) = true
is_call_kind k = false

abbrev takes_fit : Takes → Option ConstantKind → Bool
takes_fit FieldValue k = is_field_kind k
takes_fit BaseAndFieldValue k = is_field_kind k
takes_fit Arguments k = is_call_kind k
takes_fit ReceiverAndArguments k = is_call_kind k
takes_fit takes k = true

abbrev leaves_fit : Leaves → Option ConstantKind → Bool
leaves_fit OfField k = is_field_kind k
leaves_fit Result k = is_call_kind k
leaves_fit leaves k = true

abbrev fits : Opcode → Bool
fits o = takes_fit o.takes (kind_of o.form) && leaves_fit o.leaves (kind_of o.form)

abbrev all_fit : List Line → Bool
all_fit [] = true
all_fit (l ∷ ls) = fits l.opcode && all_fit ls

choice : (b : Bool) (x y : Opcode) → fits x ≡ true → fits y ≡ true → fits (if b then x else y) ≡ true
choice true x y h k = h
choice false x y h k = k

fits_in : (ls : List Line) (op : ℕ) → all_fit ls ≡ true → fits (opcode_in ls op) ≡ true
fits_in [] op h = refl
fits_in (l ∷ ls) op h =
    let p = and_parts (fits l.opcode) (all_fit ls) h in
    choice (nat_le l.first op && nat_le op l.last) l.opcode (opcode_in ls op) p.0 (fits_in ls op p.1)

pub table_fits : (op : ℕ) → fits (opcode_of op) ≡ true
unfolding opcode_of
table_fits op = fits_in table op refl

-- what was found is a field's type where the constant is a field
is_field_type : (pool : Pool) (i : ℕ) (k : Option ConstantKind) (d : Described) → is_field_kind k ≡ true → Describes pool i k d
    → (t : FieldType) × (d ≡ OneField t) × FieldAt pool i t
is_field_type pool i (Some Field) (OneField t) h p = (t, refl, p)
is_field_type pool i (Some Field) NoType h p = absurd p
is_field_type pool i (Some Field) (OneCall m) h p = absurd p
is_field_type pool i k d h p = absurd (false≢true h)

is_call_type : (pool : Pool) (i : ℕ) (k : Option ConstantKind) (d : Described) → is_call_kind k ≡ true → Describes pool i k d
    → (m : MethodType) × (d ≡ OneCall m) × CallAt pool i m
is_call_type pool i (Some Method) (OneCall m) h p = (m, refl, p)
is_call_type pool i (Some Method) NoType h p = absurd p
is_call_type pool i (Some Method) (OneField t) h p = absurd p
is_call_type pool i (Some InterfaceMethod) (OneCall m) h p = (m, refl, p)
is_call_type pool i (Some InterfaceMethod) NoType h p = absurd p
is_call_type pool i (Some InterfaceMethod) (OneField t) h p = absurd p
is_call_type pool i (Some Dynamic) (OneCall m) h p = (m, refl, p)
is_call_type pool i (Some Dynamic) NoType h p = absurd p
is_call_type pool i (Some Dynamic) (OneField t) h p = absurd p
is_call_type pool i k d h p = absurd (false≢true h)

pub takes_right : (pool : Pool) (i dims : ℕ) (takes : Takes) (k : Option ConstantKind) (d : Described) → takes_fit takes k ≡ true → Describes pool i k d
    → TakesOperands pool i dims takes (operands_of dims takes d)
takes_right pool i dims FieldValue k d h p = let f = is_field_type pool i k d h p in (f.0, f.2, ap (operands_of dims FieldValue) f.1)
takes_right pool i dims BaseAndFieldValue k d h p = let f = is_field_type pool i k d h p in (f.0, f.2, ap (operands_of dims BaseAndFieldValue) f.1)
takes_right pool i dims Arguments k d h p = let f = is_call_type pool i k d h p in (f.0, f.2, ap (operands_of dims Arguments) f.1)
takes_right pool i dims ReceiverAndArguments k d h p = let f = is_call_type pool i k d h p in (f.0, f.2, ap (operands_of dims ReceiverAndArguments) f.1)
takes_right pool i dims takes k d h p = refl

pub leaves_right : (pool : Pool) (i : ℕ) (leaves : Leaves) (k : Option ConstantKind) (d : Described) → leaves_fit leaves k ≡ true → Describes pool i k d
    → LeavesSlots pool i leaves (slots_left leaves d)
leaves_right pool i OfField k d h p = let f = is_field_type pool i k d h p in (f.0, f.2, ap (slots_left OfField) f.1)
leaves_right pool i Result k d h p = let f = is_call_type pool i k d h p in (f.0, f.2, ap (slots_left Result) f.1)
leaves_right pool i leaves k d h p = refl

-- `wide` changes no kind of constant
widened_kind : (form : Form) → not (is_undefined (widened form)) ≡ true → kind_of (widened form) ≡ kind_of form
widened_kind Local h = refl
widened_kind Increment h = refl
widened_kind SubroutineReturn h = refl
widened_kind form h = absurd (false≢true h)

known_form : (major op : ℕ) (form : Form) → is_known major op form ≡ true → not (is_undefined form) ≡ true
known_form major op form h = (and_parts (not (is_undefined form)) _ h).0

kind_by : (code : List ℕ) (pc major op : ℕ) (form : Form) (wide more : Bool) → nat_lt (pc + 1) (length code) ≡ more
    → is_known major op (if wide then (if more then widened form else Wide) else form) ≡ true
    → pc + head_size code pc (if wide then (if more then widened form else Wide) else form) ≤ length code
    → kind_of (if wide then (if more then widened form else Wide) else form) ≡ kind_of form
kind_by code pc major op form false more e known whole = refl
kind_by code pc major op form true true e known whole = widened_kind form (known_form major op _ known)
kind_by code pc major op form true false e known whole = absurd (past (pc + 1) (length code) e (omega arith))
  where
    past : (a b : ℕ) → nat_lt a b ≡ false → a < b → ⊥
    past a b f lt = grind (arith, nat_tests)

pub same_kind : (code : List ℕ) (pool : Pool) (pc : ℕ) → Passes code pool pc checks → kind_of (form_at code pc) ≡ kind_of (opcode_of (op_at code pc)).form
same_kind code pool pc p = kind_by code pc pool.major (op_at code pc) (opcode_of (op_at code pc)).form (is_wide code pc) (nat_lt (pc + 1) (length code)) refl p.0 p.1.1.0

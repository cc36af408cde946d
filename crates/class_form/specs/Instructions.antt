-- The instructions of a code, and the first fault of a code that has none.
use Rattle.std.specs.Prelude.{◌≡◌, ◌≢◌, ◌⊎◌, ◌<◌, ◌≤◌, ◌+◌, ◌-◌, ◌*◌, ◌^◌, ℕ, Bool, true, false, List, [], ◌∷◌, Some, None, Option, MatchOption, Contains, All, map, length, replicate, slice_index, take_while, nat_eq, nat_lt, ◌&&◌, not, if◌then◌else◌}
use Rattle.std.specs.Option.{option_map_or}
use Rattle.std.specs.List.Sorted.{IsStrictlyIncreasing}
use Rattle.slicer_ids.specs.Walks.{LeadsBy}
use Rattle.class_form.specs.Bytes.{short_at, signed_short_at, signed_word_at, word_at, words_at, aligned, target_of}
use Rattle.class_form.specs.Table.{opcode_of}
use Rattle.class_form.specs.Opcodes.{IsCall, IsSpecialCall, IsNew}
use Rattle.class_form.specs.Pools.{constant_at, class_at, descriptor_at, named_at}
use Rattle.class_form.specs.Resolution.{init_name, clinit_name}
use Rattle.class_form.specs.Types.{IsFieldType, IsMethodType, width}
use Rattle.class_form.specs.declared.types.FieldType.{FieldType}
use Rattle.class_form.specs.declared.types.MethodType.{MethodType}
use Rattle.class_form.specs.declared.pool.Pool.{Pool}
use Rattle.class_form.specs.declared.pool.Constant.{Constant}
use Rattle.class_form.specs.declared.pool.Constant.TheVariants.{Integer, Float, Long, Double, Class as AClass, Text, Field as AField, Method as AMethod, InterfaceMethod as AnInterfaceMethod, Handle, MethodType as AMethodType, Dynamic as ADynamic}
use Rattle.class_form.specs.declared.body.Operand.{Operand}
use Rattle.class_form.specs.declared.body.Instr.{Instr}
use Rattle.class_form.specs.declared.code_error.CodeError.{CodeError}
use Rattle.class_form.specs.declared.code_error.CodeError.TheVariants.{Broken, Jsr}
use Rattle.class_form.specs.declared.opcode.ConstantKind.{ConstantKind}
use Rattle.class_form.specs.declared.opcode.ConstantKind.TheVariants.{OneSlot, TwoSlots, Field, Method, InterfaceMethod, Dynamic, Class}
use Rattle.class_form.specs.declared.opcode.Form.{Form}
use Rattle.class_form.specs.declared.opcode.Form.TheVariants.{Plain, OwnLocal, Byte, Short, Local, Increment, WideLocal, WideIncrement, ShortIndex, Index, LongIndex, Dimensions, ElementType, Jump, LongJump, TableSwitch, LookupSwitch, Wide, SubroutineCall, SubroutineReturn, Undefined}
use Rattle.class_form.specs.declared.opcode.Takes.{Takes}
use Rattle.class_form.specs.declared.opcode.Takes.TheVariants.{Nothing, Local as TheLocal, Value, Two, Base, Element, ElementAndValue, FieldValue, BaseAndFieldValue, Arguments, ReceiverAndArguments, Lengths}
use Rattle.class_form.specs.declared.opcode.Leaves.{Leaves}
use Rattle.class_form.specs.declared.opcode.Leaves.TheVariants.{Slots, FieldValue as OfField, Result}

-- the instruction at a place: whether `wide` begins it, its opcode, and what follows that

abbrev pub is_wide : List ℕ → ℕ → Bool
is_wide code pc = nat_eq (slice_index code pc) 196

abbrev pub op_at : List ℕ → ℕ → ℕ
op_at code pc = slice_index code (if is_wide code pc then pc + 1 else pc)

-- what follows an opcode after `wide`, which may stand before those that name a local
abbrev pub widened : Form → Form
widened Local = WideLocal
widened Increment = WideIncrement
widened SubroutineReturn = SubroutineReturn
widened form = Undefined

abbrev pub form_at : List ℕ → ℕ → Form
form_at code pc =
    if is_wide code pc then (if nat_lt (pc + 1) (length code) then widened (opcode_of (op_at code pc)).form else Wide)
    else (opcode_of (op_at code pc)).form

-- the number of keys of a switch whose first distance stands at a place
abbrev pub table_keys : List ℕ → ℕ → ℕ
table_keys code k = signed_word_at code (k + 8) + 1 - signed_word_at code (k + 4)

abbrev pub lookup_keys : List ℕ → ℕ → ℕ
lookup_keys code k = word_at code (k + 4)

-- the bytes of the instruction
abbrev pub size_of : List ℕ → ℕ → Form → ℕ
size_of code pc Plain = 1
size_of code pc (OwnLocal n) = 1
size_of code pc Byte = 2
size_of code pc Short = 3
size_of code pc Local = 2
size_of code pc Increment = 3
size_of code pc WideLocal = 4
size_of code pc WideIncrement = 6
size_of code pc (ShortIndex k) = 2
size_of code pc (Index k) = 3
size_of code pc (LongIndex k) = 5
size_of code pc Dimensions = 4
size_of code pc ElementType = 2
size_of code pc Jump = 3
size_of code pc LongJump = 5
size_of code pc TableSwitch = aligned pc + 12 + 4 * table_keys code (aligned pc) - pc
size_of code pc LookupSwitch = aligned pc + 8 + 8 * lookup_keys code (aligned pc) - pc
size_of code pc Wide = 2
size_of code pc SubroutineCall = 1
size_of code pc SubroutineReturn = 1
size_of code pc Undefined = 1

-- .. of those up to the counts of a switch
abbrev pub head_size : List ℕ → ℕ → Form → ℕ
head_size code pc TableSwitch = aligned pc + 12 - pc
head_size code pc LookupSwitch = aligned pc + 8 - pc
head_size code pc form = size_of code pc form

-- the local or the index of the constant that it names
abbrev pub index_of : List ℕ → ℕ → Form → ℕ
index_of code pc (OwnLocal n) = n
index_of code pc Local = slice_index code (pc + 1)
index_of code pc Increment = slice_index code (pc + 1)
index_of code pc WideLocal = short_at code (pc + 2)
index_of code pc WideIncrement = short_at code (pc + 2)
index_of code pc (ShortIndex k) = slice_index code (pc + 1)
index_of code pc (Index k) = short_at code (pc + 1)
index_of code pc (LongIndex k) = short_at code (pc + 1)
index_of code pc Dimensions = short_at code (pc + 1)
index_of code pc form = 0

abbrev pub dims_of : List ℕ → ℕ → Form → ℕ
dims_of code pc Dimensions = slice_index code (pc + 3)
dims_of code pc form = 0

-- how far it jumps: a switch by default, then by its keys in their order
abbrev pub distances_of : List ℕ → ℕ → Form → List ℕ
distances_of code pc Jump = signed_short_at code (pc + 1) ∷ []
distances_of code pc LongJump = signed_word_at code (pc + 1) ∷ []
distances_of code pc TableSwitch =
    signed_word_at code (aligned pc) ∷ words_at code (aligned pc + 12) 4 (table_keys code (aligned pc))
distances_of code pc LookupSwitch =
    signed_word_at code (aligned pc) ∷ words_at code (aligned pc + 12) 8 (lookup_keys code (aligned pc))
distances_of code pc form = []

-- what its constants say

-- the constant at an index is a field with this type, or something to call with this type
abbrev pub FieldAt : Pool → ℕ → FieldType → Type 0
FieldAt pool i t = (bytes : List ℕ) × (descriptor_at pool i ≡ Some bytes) × IsFieldType bytes t

abbrev pub CallAt : Pool → ℕ → MethodType → Type 0
CallAt pool i m = (bytes : List ℕ) × (descriptor_at pool i ≡ Some bytes) × IsMethodType bytes m

-- the value of the constant takes one slot, or two
abbrev pub is_one_slot : Constant → Bool
is_one_slot (Integer n) = true
is_one_slot (Float n) = true
is_one_slot (Text n) = true
is_one_slot (AClass n) = true
is_one_slot (Handle k n) = true
is_one_slot (AMethodType n) = true
is_one_slot c = false

abbrev pub is_two_slots : Constant → Bool
is_two_slots (Long n) = true
is_two_slots (Double n) = true
is_two_slots c = false

abbrev pub is_field : Constant → Bool
is_field (AField c n) = true
is_field c = false

abbrev pub is_method : Constant → Bool
is_method (AMethod c n) = true
is_method c = false

abbrev pub is_interface_method : Constant → Bool
is_interface_method (AnInterfaceMethod c n) = true
is_interface_method c = false

abbrev pub is_dynamic : Constant → Bool
is_dynamic (ADynamic b n) = true
is_dynamic c = false

abbrev pub is_class : Constant → Bool
is_class (AClass n) = true
is_class c = false

abbrev pub is_of_kind : ConstantKind → Constant → Bool
is_of_kind OneSlot c = is_one_slot c
is_of_kind TwoSlots c = is_two_slots c
is_of_kind Field c = is_field c
is_of_kind Method c = is_method c
is_of_kind InterfaceMethod c = is_interface_method c
is_of_kind Dynamic c = is_dynamic c
is_of_kind Class c = is_class c

-- what a constant of the kind leads to: a class its text, all that has a type one of its kind
abbrev pub LeadsToType : Pool → ℕ → ConstantKind → Type 0
LeadsToType pool i OneSlot = Unit {0}
LeadsToType pool i TwoSlots = Unit {0}
LeadsToType pool i Field = (t : FieldType) × FieldAt pool i t
LeadsToType pool i Method = (m : MethodType) × CallAt pool i m
LeadsToType pool i InterfaceMethod = (m : MethodType) × CallAt pool i m
LeadsToType pool i Dynamic = (m : MethodType) × CallAt pool i m
LeadsToType pool i Class = (text : List ℕ) × (class_at pool i ≡ Some text)

-- the dimensions of a type, as the text of a Class constant names it
abbrev pub brackets : List ℕ → ℕ
brackets text = length (take_while (λ b. nat_eq b 91) text)

-- `new` makes no array, nothing calls a class initializer, and only `invokespecial` calls a constructor
abbrev pub IsAllowed : Pool → ℕ → ℕ → Type 0
IsAllowed pool op i =
    (IsNew op → (text : List ℕ) → class_at pool i ≡ Some text → brackets text ≡ 0)
    × (IsCall op → (name : List ℕ) (descriptor : List ℕ) → named_at pool i ≡ Some (name, descriptor) →
    (name ≢ clinit_name) × (name ≡ init_name → IsSpecialCall op))

abbrev pub NamesConstant : Pool → ℕ → ℕ → ConstantKind → Type 0
NamesConstant pool op i kind =
    (c : Constant) × (constant_at pool i ≡ Some c) × (is_of_kind kind c ≡ true) × LeadsToType pool i kind × IsAllowed pool op i

-- the kind of constant that an instruction names, where it names one
abbrev pub kind_of : Form → Option ConstantKind
kind_of (ShortIndex kind) = Some kind
kind_of (Index kind) = Some kind
kind_of (LongIndex kind) = Some kind
kind_of Dimensions = Some Class
kind_of form = None

abbrev pub HasConstant : Pool → ℕ → ℕ → Form → Type 0
HasConstant pool op i form = MatchOption (kind_of form) (Unit {0}) (NamesConstant pool op i)

-- the number of a primitive type; dimensions, at least one and no more than the class has; keys in order
abbrev pub HasNumbers : List ℕ → Pool → ℕ → Form → Type 0
HasNumbers code pool pc ElementType = (4 ≤ slice_index code (pc + 1)) × (slice_index code (pc + 1) ≤ 11)
HasNumbers code pool pc Dimensions =
    (0 < slice_index code (pc + 3)) × (text : List ℕ)
    × (class_at pool (short_at code (pc + 1)) ≡ Some text) × (slice_index code (pc + 3) ≤ brackets text)
HasNumbers code pool pc LookupSwitch = IsStrictlyIncreasing (words_at code (aligned pc + 8) 8 (lookup_keys code (aligned pc)))
HasNumbers code pool pc form = Unit {0}

-- the least key isn't above the greatest, and the count of keys isn't negative
abbrev pub HasCount : List ℕ → ℕ → Form → Type 0
HasCount code pc TableSwitch = signed_word_at code (aligned pc + 4) ≤ signed_word_at code (aligned pc + 8)
HasCount code pc LookupSwitch = lookup_keys code (aligned pc) < 2 ^ 31
HasCount code pc form = Unit {0}

abbrev pub is_undefined : Form → Bool
is_undefined Undefined = true
is_undefined form = false

abbrev pub is_subroutine : Form → Bool
is_subroutine SubroutineCall = true
is_subroutine SubroutineReturn = true
is_subroutine form = false

-- there is such an instruction in class files of this version
abbrev pub is_known : ℕ → ℕ → Form → Bool
is_known major op form = not (is_undefined form) && not (nat_eq op 186 && nat_lt major 51)

-- what is tried at an instruction
pub data Check : Type 0 where
  KnownOpcode : Check
  NoSubroutine : Check
  WholeHead : Check
  RightCount : Check
  WholeInstruction : Check
  RightConstant : Check
  RightNumbers : Check

-- .. in this order
abbrev pub checks : List Check
checks = KnownOpcode ∷ NoSubroutine ∷ WholeHead ∷ RightCount ∷ WholeInstruction ∷ RightConstant ∷ RightNumbers ∷ []

abbrev pub Keeps : List ℕ → Pool → ℕ → Check → Type 0
Keeps code pool pc KnownOpcode = is_known pool.major (op_at code pc) (form_at code pc) ≡ true
Keeps code pool pc NoSubroutine = is_subroutine (form_at code pc) ≡ false
Keeps code pool pc WholeHead = pc + head_size code pc (form_at code pc) ≤ length code
Keeps code pool pc RightCount = HasCount code pc (form_at code pc)
Keeps code pool pc WholeInstruction = pc + size_of code pc (form_at code pc) ≤ length code
Keeps code pool pc RightConstant = HasConstant pool (op_at code pc) (index_of code pc (form_at code pc)) (form_at code pc)
Keeps code pool pc RightNumbers = HasNumbers code pool pc (form_at code pc)

-- how its failure is refused
abbrev pub refusal : ℕ → Check → CodeError
refusal pc KnownOpcode = Broken 1 pc
refusal pc NoSubroutine = Jsr pc
refusal pc WholeHead = Broken 2 pc
refusal pc RightCount = Broken 4 pc
refusal pc WholeInstruction = Broken 2 pc
refusal pc RightConstant = Broken 3 pc
refusal pc RightNumbers = Broken 4 pc

-- all of the checks are kept
abbrev pub Passes : List ℕ → Pool → ℕ → List Check → Type 0
Passes code pool pc [] = Unit {0}
Passes code pool pc (c ∷ cs) = Keeps code pool pc c × Passes code pool pc cs

-- the refusal of the first check that isn't kept
abbrev pub FailsFirst : List ℕ → Pool → ℕ → CodeError → List Check → Type 0
FailsFirst code pool pc fault [] = ⊥
FailsFirst code pool pc fault (c ∷ cs) =
    ((Keeps code pool pc c → ⊥) × (fault ≡ refusal pc c)) ⊎ (Keeps code pool pc c × FailsFirst code pool pc fault cs)

-- what it takes and leaves

-- an operand that is used as a value, or one that is reached through
abbrev pub value : ℕ → Operand
value slots = record { slots = slots; base = false }

abbrev pub base : Operand
base = record { slots = 1; base = true }

abbrev pub values_of : MethodType → List Operand
values_of m = map (λ t. value (width t)) m.arguments

abbrev pub TakesOperands : Pool → ℕ → ℕ → Takes → List Operand → Type 0
TakesOperands pool i dims Nothing ops = ops ≡ []
TakesOperands pool i dims (TheLocal w) ops = ops ≡ value w ∷ []
TakesOperands pool i dims (Value w) ops = ops ≡ value w ∷ []
TakesOperands pool i dims (Two v w) ops = ops ≡ value v ∷ value w ∷ []
TakesOperands pool i dims Base ops = ops ≡ base ∷ []
TakesOperands pool i dims Element ops = ops ≡ base ∷ base ∷ []
TakesOperands pool i dims (ElementAndValue w) ops = ops ≡ base ∷ base ∷ value w ∷ []
TakesOperands pool i dims FieldValue ops = (t : FieldType) × FieldAt pool i t × (ops ≡ value (width t) ∷ [])
TakesOperands pool i dims BaseAndFieldValue ops = (t : FieldType) × FieldAt pool i t × (ops ≡ base ∷ value (width t) ∷ [])
TakesOperands pool i dims Arguments ops = (m : MethodType) × CallAt pool i m × (ops ≡ values_of m)
TakesOperands pool i dims ReceiverAndArguments ops = (m : MethodType) × CallAt pool i m × (ops ≡ value 1 ∷ values_of m)
TakesOperands pool i dims Lengths ops = ops ≡ replicate dims (value 1)

abbrev pub LeavesSlots : Pool → ℕ → Leaves → ℕ → Type 0
LeavesSlots pool i (Slots n) slots = slots ≡ n
LeavesSlots pool i OfField slots = (t : FieldType) × FieldAt pool i t × (slots ≡ width t)
LeavesSlots pool i Result slots = (m : MethodType) × CallAt pool i m × (slots ≡ option_map_or width m.result 0)

-- the instruction that stands at a place, but for its targets
pub record Stands (code : List ℕ) (pool : Pool) (pc : ℕ) (i : Instr) : Type 0 where
  pub place : i.pc ≡ pc
  pub inside : pc < length code
  pub passes : Passes code pool pc checks
  pub size : i.size ≡ size_of code pc (form_at code pc)
  pub op : i.op ≡ op_at code pc
  pub wide : i.wide ≡ is_wide code pc
  pub index : i.index ≡ index_of code pc (form_at code pc)
  pub dims : i.dims ≡ dims_of code pc (form_at code pc)
  pub takes : TakesOperands pool i.index i.dims (opcode_of i.op).takes i.takes
  pub leaves : LeavesSlots pool i.index (opcode_of i.op).leaves i.leaves

-- one instruction passes all checks, and the next begins where it ends
abbrev pub Follows : List ℕ → Pool → ℕ → ℕ → Type 0
Follows code pool a b = (a < length code) × Passes code pool a checks × (b ≡ a + size_of code a (form_at code a))

-- an instruction begins there
abbrev pub IsStart : List ℕ → Pool → ℕ → Type 0
IsStart code pool pc = LeadsBy (Follows code pool) 0 pc × (pc < length code)

-- some jump of the instruction leads to no start of an instruction
abbrev pub Misses : List ℕ → Pool → ℕ → Type 0
Misses code pool pc =
    (distance : ℕ) × Contains (distances_of code pc (form_at code pc)) distance
    × ((target : ℕ) → target_of pc distance ≡ Some target → IsStart code pool target → ⊥)

-- the instructions from one place to another, in order and without gap, with where each jumps
abbrev pub AreInstrs : List ℕ → Pool → ℕ → List Instr → ℕ → Type 0
AreInstrs code pool from [] to = from ≡ to
AreInstrs code pool from (i ∷ is) to =
    Stands code pool from i × (map (target_of from) (distances_of code from (form_at code from)) ≡ map Some i.targets)
    × All (IsStart code pool) i.targets × AreInstrs code pool (from + i.size) is to

-- the list has the instructions of the code
abbrev pub Instrs : List ℕ → Pool → List Instr → Type 0
Instrs code pool list = AreInstrs code pool 0 list (length code)

-- the code's first fault: at the first instruction that doesn't pass the checks or, where the instructions reach the code's
-- end, at the first with a jump that leads to no start of an instruction
pub data FirstCodeFault (code : List ℕ) (pool : Pool) : CodeError → Type 0 where
  at_instruction : {pc : ℕ} {fault : CodeError} → IsStart code pool pc → FailsFirst code pool pc fault checks → FirstCodeFault code pool fault
  at_jump : {pc : ℕ} {fault : CodeError} → LeadsBy (Follows code pool) 0 (length code) → IsStart code pool pc → Misses code pool pc →
      ((other : ℕ) → other < pc → IsStart code pool other → Misses code pool other → ⊥) → fault ≡ Broken 5 pc → FirstCodeFault code pool fault

-- Parts of what is said of an instruction, as the functions of this crate find them.
use Rattle.std.specs.Prelude.{◌≡◌, ◌⊎◌, ◌<◌, ◌≤◌, ◌+◌, ℕ, List, [], ◌∷◌, Some, Option, map, length, min, replicate, unwrap_or}
use Rattle.std.specs.Option.{option_map_or}
use Rattle.class_form.specs.Bytes.{target_of}
use Rattle.class_form.specs.Table.{opcode_of}
use Rattle.class_form.specs.Instructions.{Check, KnownOpcode, NoSubroutine, WholeHead, RightCount, WholeInstruction, checks, Passes, Stands, head_size, size_of, index_of, dims_of, kind_of, HasCount, op_at, is_wide, form_at, distances_of, FieldAt, CallAt, value, base, values_of}
use Rattle.class_form.specs.Types.{width}
use Rattle.class_form.specs.declared.pool.Pool.{Pool}
use Rattle.class_form.specs.declared.code_error.CodeError.{CodeError}
use Rattle.class_form.specs.declared.code_error.CodeError.TheVariants.{Broken}
use Rattle.class_form.specs.declared.body.Operand.{Operand}
use Rattle.class_form.specs.declared.body.Instr.{Instr}
use Rattle.class_form.specs.declared.opcode.ConstantKind.{ConstantKind}
use Rattle.class_form.specs.declared.opcode.ConstantKind.TheVariants.{Field, Method, InterfaceMethod, Dynamic}
use Rattle.class_form.specs.declared.opcode.Form.{Form}
use Rattle.class_form.specs.declared.opcode.Form.TheVariants.{Byte, Short, Local, Increment, WideLocal, WideIncrement, ShortIndex, Index, LongIndex, Dimensions, ElementType, Jump, LongJump, Wide}
use Rattle.class_form.specs.declared.opcode.Takes.{Takes}
use Rattle.class_form.specs.declared.opcode.Takes.TheVariants.{Local as TheLocal, Value, Two, Base, Element, ElementAndValue, FieldValue, BaseAndFieldValue, Arguments, ReceiverAndArguments, Lengths}
use Rattle.class_form.specs.declared.opcode.Leaves.{Leaves}
use Rattle.class_form.specs.declared.opcode.Leaves.TheVariants.{Slots, FieldValue as OfField, Result}
use Rattle.bytecode.specs.declared.instructions.Checked.{Checked}
use Rattle.bytecode.specs.declared.descriptors.Described.{Described}
use Rattle.bytecode.specs.declared.descriptors.Described.TheVariants.{Field as OneField, Call as OneCall}

-- the checks, in groups
abbrev pub opcode_checks : List Check
opcode_checks = KnownOpcode ∷ NoSubroutine ∷ []

abbrev pub size_checks : List Check
size_checks = WholeHead ∷ RightCount ∷ WholeInstruction ∷ []

-- the bytes of an instruction that is no switch
abbrev pub fixed_size : Form → ℕ
fixed_size Byte = 2
fixed_size Short = 3
fixed_size Local = 2
fixed_size Increment = 3
fixed_size WideLocal = 4
fixed_size WideIncrement = 6
fixed_size (ShortIndex k) = 2
fixed_size (Index k) = 3
fixed_size (LongIndex k) = 5
fixed_size Dimensions = 4
fixed_size ElementType = 2
fixed_size Jump = 3
fixed_size LongJump = 5
fixed_size Wide = 2
fixed_size form = 1

-- what is wrong with the size of the instruction at a place, as it is refused
abbrev pub WrongSize : List ℕ → ℕ → Form → CodeError → Type 0
WrongSize code pc form fault =
    ((length code < pc + head_size code pc form) × (fault ≡ Broken 2 pc))
    ⊎ (((pc + head_size code pc form ≤ length code) × (HasCount code pc form → ⊥) × (fault ≡ Broken 4 pc))
    ⊎ ((pc + head_size code pc form ≤ length code) × HasCount code pc form
    × (length code < pc + size_of code pc form) × (fault ≡ Broken 2 pc)))

-- where a jump goes; 65535, where no instruction begins, stands for all places that are no pc
abbrev pub clamped : Option ℕ → ℕ
clamped o = min (unwrap_or o 65535) 65535

-- the types of the constant at an index, by its kind
abbrev pub Describes : Pool → ℕ → Option ConstantKind → Described → Type 0
Describes pool i (Some Field) (OneField t) = FieldAt pool i t
Describes pool i (Some Field) d = ⊥
Describes pool i (Some Method) (OneCall m) = CallAt pool i m
Describes pool i (Some Method) d = ⊥
Describes pool i (Some InterfaceMethod) (OneCall m) = CallAt pool i m
Describes pool i (Some InterfaceMethod) d = ⊥
Describes pool i (Some Dynamic) (OneCall m) = CallAt pool i m
Describes pool i (Some Dynamic) d = ⊥
Describes pool i kind d = Unit {0}

-- the operands by the types of the constant
abbrev pub operands_of : ℕ → Takes → Described → List Operand
operands_of dims (TheLocal w) d = value w ∷ []
operands_of dims (Value w) d = value w ∷ []
operands_of dims (Two v w) d = value v ∷ value w ∷ []
operands_of dims Base d = base ∷ []
operands_of dims Element d = base ∷ base ∷ []
operands_of dims (ElementAndValue w) d = base ∷ base ∷ value w ∷ []
operands_of dims FieldValue (OneField t) = value (width t) ∷ []
operands_of dims BaseAndFieldValue (OneField t) = base ∷ value (width t) ∷ []
operands_of dims Arguments (OneCall m) = values_of m
operands_of dims ReceiverAndArguments (OneCall m) = value 1 ∷ values_of m
operands_of dims Lengths d = replicate dims (value 1)
operands_of dims takes d = []

abbrev pub slots_left : Leaves → Described → ℕ
slots_left (Slots n) d = n
slots_left OfField (OneField t) = width t
slots_left Result (OneCall m) = option_map_or width m.result 0
slots_left leaves d = 0

-- what was found of an instruction of which all checks are kept
pub record IsChecked (code : List ℕ) (pool : Pool) (pc : ℕ) (c : Checked) : Type 0 where
  pub passes : Passes code pool pc checks
  pub op : c.head.op ≡ op_at code pc
  pub wide : c.head.wide ≡ is_wide code pc
  pub form : c.head.form ≡ form_at code pc
  pub opcode : c.head.opcode ≡ opcode_of c.head.op
  pub size : c.size ≡ size_of code pc (form_at code pc)
  pub some : 0 < c.size
  pub index : c.index ≡ index_of code pc (form_at code pc)
  pub dims : c.dims ≡ dims_of code pc (form_at code pc)
  pub described : Describes pool c.index (kind_of c.head.form) c.described

-- the instruction that stands at a place, with its jumps clamped
abbrev pub StandsClamped : List ℕ → Pool → ℕ → Instr → Type 0
StandsClamped code pool pc i = Stands code pool pc i × (i.targets ≡ map (λ d. clamped (target_of pc d)) (distances_of code pc (form_at code pc)))

-- such instructions from one place to another
abbrev pub AreClamped : List ℕ → Pool → ℕ → List Instr → ℕ → Type 0
AreClamped code pool from [] to = from ≡ to
AreClamped code pool from (i ∷ is) to = StandsClamped code pool from i × AreClamped code pool (from + i.size) is to

-- The opcodes: what stands after each, what it takes and leaves, which local it writes, and whether control goes on.
use Rattle.std.specs.Prelude.{◌+◌, ◌-◌, ℕ, true, false, List, [], ◌∷◌, ◌++◌, ◌&&◌, nat_le, if◌then◌else◌, Option, None, slice_get}
use Rattle.class_form.specs.declared.opcode.Opcode.{Opcode}
use Rattle.class_form.specs.declared.opcode.ConstantKind.TheVariants.{OneSlot, TwoSlots, Field, Method, InterfaceMethod, Dynamic, Class}
use Rattle.class_form.specs.declared.opcode.Form.{Form}
use Rattle.class_form.specs.declared.opcode.Form.TheVariants.{Plain, OwnLocal, Byte, Short, Local, Increment, ShortIndex, Index, LongIndex, Dimensions, ElementType, Jump, LongJump, TableSwitch, LookupSwitch, Wide, SubroutineCall, SubroutineReturn, Undefined}
use Rattle.class_form.specs.declared.opcode.Takes.{Takes}
use Rattle.class_form.specs.declared.opcode.Takes.TheVariants.{Nothing, Local as TheLocal, Value, Two, Base, Element, ElementAndValue, FieldValue, BaseAndFieldValue, Arguments, ReceiverAndArguments, Lengths}
use Rattle.class_form.specs.declared.opcode.Leaves.{Leaves}
use Rattle.class_form.specs.declared.opcode.Leaves.TheVariants.{Slots, FieldValue as OfField, Result}

-- the opcodes from the first to the last are one kind
pub record Line : Type 0 where
  pub first : ℕ
  pub last : ℕ
  pub opcode : Opcode

-- takes operands, leaves a value or nothing, and control goes on
abbrev pub plain : ℕ → ℕ → Form → Takes → Leaves → Line
plain first last form takes leaves =
    record { first = first; last = last; opcode = record { form = form; takes = takes; leaves = leaves; makes = 0; goes_on = true } }

-- stores into a local of so many slots
abbrev pub stores : ℕ → ℕ → Form → Takes → ℕ → Line
stores first last form takes makes =
    record { first = first; last = last; opcode = record { form = form; takes = takes; leaves = Slots 0; makes = makes; goes_on = true } }

-- control doesn't go on to the next instruction
abbrev pub ends : ℕ → ℕ → Form → Takes → Line
ends first last form takes =
    record { first = first; last = last; opcode = record { form = form; takes = takes; leaves = Slots 0; makes = 0; goes_on = false } }

-- four opcodes for the locals 0 to 3
abbrev pub loads_of : ℕ → ℕ → List Line
loads_of op w =
    plain op op (OwnLocal 0) (TheLocal w) (Slots w) ∷ plain (op + 1) (op + 1) (OwnLocal 1) (TheLocal w) (Slots w)
    ∷ plain (op + 2) (op + 2) (OwnLocal 2) (TheLocal w) (Slots w) ∷ plain (op + 3) (op + 3) (OwnLocal 3) (TheLocal w) (Slots w) ∷ []

abbrev pub stores_of : ℕ → ℕ → List Line
stores_of op w =
    stores op op (OwnLocal 0) (Value w) w ∷ stores (op + 1) (op + 1) (OwnLocal 1) (Value w) w
    ∷ stores (op + 2) (op + 2) (OwnLocal 2) (Value w) w ∷ stores (op + 3) (op + 3) (OwnLocal 3) (Value w) w ∷ []

-- two values and a result, of the types int, long, float and double
abbrev pub operators : ℕ → List Line
operators op =
    plain op op Plain (Two 1 1) (Slots 1) ∷ plain (op + 1) (op + 1) Plain (Two 2 2) (Slots 2)
    ∷ plain (op + 2) (op + 2) Plain (Two 1 1) (Slots 1) ∷ plain (op + 3) (op + 3) Plain (Two 2 2) (Slots 2) ∷ []

-- all lines, in groups by order of opcode
abbrev pub constants : List Line
constants =
    plain 0 0 Plain Nothing (Slots 0)  -- nop
    ∷ plain 1 8 Plain Nothing (Slots 1)  -- aconst_null, iconst
    ∷ plain 9 10 Plain Nothing (Slots 2)  -- lconst
    ∷ plain 11 13 Plain Nothing (Slots 1)  -- fconst
    ∷ plain 14 15 Plain Nothing (Slots 2)  -- dconst
    ∷ plain 16 16 Byte Nothing (Slots 1)  -- bipush
    ∷ plain 17 17 Short Nothing (Slots 1)  -- sipush
    ∷ plain 18 18 (ShortIndex OneSlot) Nothing (Slots 1)  -- ldc
    ∷ plain 19 19 (Index OneSlot) Nothing (Slots 1)  -- ldc_w
    ∷ plain 20 20 (Index TwoSlots) Nothing (Slots 2)  -- ldc2_w
    ∷ []

abbrev pub loads : List Line
loads =
    plain 21 21 Local (TheLocal 1) (Slots 1)  -- iload
    ∷ plain 22 22 Local (TheLocal 2) (Slots 2)  -- lload
    ∷ plain 23 23 Local (TheLocal 1) (Slots 1)  -- fload
    ∷ plain 24 24 Local (TheLocal 2) (Slots 2)  -- dload
    ∷ plain 25 25 Local (TheLocal 1) (Slots 1)  -- aload
    ∷ loads_of 26 1 ++ loads_of 30 2 ++ loads_of 34 1 ++ loads_of 38 2 ++ loads_of 42 1

abbrev pub array_loads : List Line
array_loads =
    plain 46 46 Plain Element (Slots 1)  -- iaload
    ∷ plain 47 47 Plain Element (Slots 2)  -- laload
    ∷ plain 48 48 Plain Element (Slots 1)  -- faload
    ∷ plain 49 49 Plain Element (Slots 2)  -- daload
    ∷ plain 50 53 Plain Element (Slots 1)  -- aaload, baload, caload, saload
    ∷ []

abbrev pub all_stores : List Line
all_stores =
    stores 54 54 Local (Value 1) 1  -- istore
    ∷ stores 55 55 Local (Value 2) 2  -- lstore
    ∷ stores 56 56 Local (Value 1) 1  -- fstore
    ∷ stores 57 57 Local (Value 2) 2  -- dstore
    ∷ stores 58 58 Local (Value 1) 1  -- astore
    ∷ stores_of 59 1 ++ stores_of 63 2 ++ stores_of 67 1 ++ stores_of 71 2 ++ stores_of 75 1

abbrev pub array_stores : List Line
array_stores =
    plain 79 79 Plain (ElementAndValue 1) (Slots 0)  -- iastore
    ∷ plain 80 80 Plain (ElementAndValue 2) (Slots 0)  -- lastore
    ∷ plain 81 81 Plain (ElementAndValue 1) (Slots 0)  -- fastore
    ∷ plain 82 82 Plain (ElementAndValue 2) (Slots 0)  -- dastore
    ∷ plain 83 86 Plain (ElementAndValue 1) (Slots 0)  -- aastore, bastore, castore, sastore
    ∷ []

abbrev pub arithmetic : List Line
arithmetic =
    plain 87 95 Plain Nothing (Slots 0)  -- pop to swap move slots
    ∷ operators 96 ++ operators 100 ++ operators 104 ++ operators 108 ++ operators 112  -- add, sub, mul, div, rem
    ++ plain 116 116 Plain (Value 1) (Slots 1)  -- ineg
    ∷ plain 117 117 Plain (Value 2) (Slots 2)  -- lneg
    ∷ plain 118 118 Plain (Value 1) (Slots 1)  -- fneg
    ∷ plain 119 119 Plain (Value 2) (Slots 2)  -- dneg
    ∷ plain 120 120 Plain (Two 1 1) (Slots 1)  -- ishl
    ∷ plain 121 121 Plain (Two 2 1) (Slots 2)  -- lshl
    ∷ plain 122 122 Plain (Two 1 1) (Slots 1)  -- ishr
    ∷ plain 123 123 Plain (Two 2 1) (Slots 2)  -- lshr
    ∷ plain 124 124 Plain (Two 1 1) (Slots 1)  -- iushr
    ∷ plain 125 125 Plain (Two 2 1) (Slots 2)  -- lushr
    ∷ plain 126 126 Plain (Two 1 1) (Slots 1)  -- iand
    ∷ plain 127 127 Plain (Two 2 2) (Slots 2)  -- land
    ∷ plain 128 128 Plain (Two 1 1) (Slots 1)  -- ior
    ∷ plain 129 129 Plain (Two 2 2) (Slots 2)  -- lor
    ∷ plain 130 130 Plain (Two 1 1) (Slots 1)  -- ixor
    ∷ plain 131 131 Plain (Two 2 2) (Slots 2)  -- lxor
    ∷ stores 132 132 Increment (TheLocal 1) 1  -- iinc
    ∷ []

abbrev pub conversions : List Line
conversions =
    plain 133 133 Plain (Value 1) (Slots 2)  -- i2l
    ∷ plain 134 134 Plain (Value 1) (Slots 1)  -- i2f
    ∷ plain 135 135 Plain (Value 1) (Slots 2)  -- i2d
    ∷ plain 136 137 Plain (Value 2) (Slots 1)  -- l2i, l2f
    ∷ plain 138 138 Plain (Value 2) (Slots 2)  -- l2d
    ∷ plain 139 139 Plain (Value 1) (Slots 1)  -- f2i
    ∷ plain 140 141 Plain (Value 1) (Slots 2)  -- f2l, f2d
    ∷ plain 142 142 Plain (Value 2) (Slots 1)  -- d2i
    ∷ plain 143 143 Plain (Value 2) (Slots 2)  -- d2l
    ∷ plain 144 144 Plain (Value 2) (Slots 1)  -- d2f
    ∷ plain 145 147 Plain (Value 1) (Slots 1)  -- i2b, i2c, i2s
    ∷ plain 148 148 Plain (Two 2 2) (Slots 1)  -- lcmp
    ∷ plain 149 150 Plain (Two 1 1) (Slots 1)  -- fcmpl, fcmpg
    ∷ plain 151 152 Plain (Two 2 2) (Slots 1)  -- dcmpl, dcmpg
    ∷ []

abbrev pub jumps : List Line
jumps =
    plain 153 158 Jump (Value 1) (Slots 0)  -- ifeq to ifle
    ∷ plain 159 166 Jump (Two 1 1) (Slots 0)  -- if_icmpeq to if_acmpne
    ∷ ends 167 167 Jump Nothing  -- goto
    ∷ ends 168 168 SubroutineCall Nothing  -- jsr
    ∷ ends 169 169 SubroutineReturn Nothing  -- ret
    ∷ ends 170 170 TableSwitch (Value 1)  -- tableswitch
    ∷ ends 171 171 LookupSwitch (Value 1)  -- lookupswitch
    ∷ ends 172 172 Plain (Value 1)  -- ireturn
    ∷ ends 173 173 Plain (Value 2)  -- lreturn
    ∷ ends 174 174 Plain (Value 1)  -- freturn
    ∷ ends 175 175 Plain (Value 2)  -- dreturn
    ∷ ends 176 176 Plain (Value 1)  -- areturn
    ∷ ends 177 177 Plain Nothing  -- return
    ∷ []

abbrev pub references : List Line
references =
    plain 178 178 (Index Field) Nothing OfField  -- getstatic
    ∷ plain 179 179 (Index Field) FieldValue (Slots 0)  -- putstatic
    ∷ plain 180 180 (Index Field) Base OfField  -- getfield
    ∷ plain 181 181 (Index Field) BaseAndFieldValue (Slots 0)  -- putfield
    ∷ plain 182 183 (Index Method) ReceiverAndArguments Result  -- invokevirtual, invokespecial
    ∷ plain 184 184 (Index Method) Arguments Result  -- invokestatic
    ∷ plain 185 185 (LongIndex InterfaceMethod) ReceiverAndArguments Result  -- invokeinterface
    ∷ plain 186 186 (LongIndex Dynamic) Arguments Result  -- invokedynamic
    ∷ plain 187 187 (Index Class) Nothing (Slots 1)  -- new
    ∷ plain 188 188 ElementType (Value 1) (Slots 1)  -- newarray
    ∷ plain 189 189 (Index Class) (Value 1) (Slots 1)  -- anewarray
    ∷ plain 190 190 Plain Base (Slots 1)  -- arraylength
    ∷ ends 191 191 Plain (Value 1)  -- athrow
    ∷ plain 192 193 (Index Class) (Value 1) (Slots 1)  -- checkcast, instanceof
    ∷ plain 194 195 Plain (Value 1) (Slots 0)  -- monitorenter, monitorexit
    ∷ ends 196 196 Wide Nothing  -- wide
    ∷ plain 197 197 Dimensions Lengths (Slots 1)  -- multianewarray
    ∷ plain 198 199 Jump (Value 1) (Slots 0)  -- ifnull, ifnonnull
    ∷ ends 200 200 LongJump Nothing  -- goto_w
    ∷ ends 201 201 SubroutineCall Nothing  -- jsr_w
    ∷ []

abbrev pub table : List Line
table = constants ++ loads ++ array_loads ++ all_stores ++ array_stores ++ arithmetic ++ conversions ++ jumps ++ references

-- there is no such instruction
abbrev pub undefined : Opcode
undefined = record { form = Undefined; takes = Nothing; leaves = Slots 0; makes = 0; goes_on = false }

abbrev pub opcode_in : List Line → ℕ → Opcode
opcode_in [] op = undefined
opcode_in (l ∷ ls) op = if nat_le l.first op && nat_le op l.last then l.opcode else opcode_in ls op

-- what the table says of an opcode
unfoldable pub opcode_of : ℕ → Opcode
opcode_of = opcode_in table

-- slots that are moved: so many are taken, numbered from the bottom, and those with these numbers are left
pub record Moves : Type 0 where
  pub takes : ℕ
  pub leaves : List ℕ

-- the moves, by the opcodes from 87 on: pop, pop2, dup, dup_x1, dup_x2, dup2, dup2_x1, dup2_x2, swap
abbrev pub move_table : List Moves
move_table =
    record { takes = 1; leaves = [] }  -- pop: a to nothing
    ∷ record { takes = 2; leaves = [] }  -- pop2: a b to nothing
    ∷ record { takes = 1; leaves = 0 ∷ 0 ∷ [] }  -- dup: a to a a
    ∷ record { takes = 2; leaves = 1 ∷ 0 ∷ 1 ∷ [] }  -- dup_x1: a b to b a b
    ∷ record { takes = 3; leaves = 2 ∷ 0 ∷ 1 ∷ 2 ∷ [] }  -- dup_x2: a b c to c a b c
    ∷ record { takes = 2; leaves = 0 ∷ 1 ∷ 0 ∷ 1 ∷ [] }  -- dup2: a b to a b a b
    ∷ record { takes = 3; leaves = 1 ∷ 2 ∷ 0 ∷ 1 ∷ 2 ∷ [] }  -- dup2_x1: a b c to b c a b c
    ∷ record { takes = 4; leaves = 2 ∷ 3 ∷ 0 ∷ 1 ∷ 2 ∷ 3 ∷ [] }  -- dup2_x2: a b c d to c d a b c d
    ∷ record { takes = 2; leaves = 1 ∷ 0 ∷ [] }  -- swap: a b to b a
    ∷ []

-- the slots that an opcode moves
abbrev pub moves_of : ℕ → Option Moves
moves_of op = if nat_le 87 op then slice_get move_table (op - 87) else None

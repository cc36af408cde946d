-- How the class or array of a site is named, by the instruction that makes it.
use Rattle.std.specs.Prelude.{◌≡◌, ◌||◌, ◌&&◌, ◌+◌, ◌-◌, ℕ, List, [], ◌∷◌, Some, drop, if◌then◌else◌, nat_eq, nat_le, option_and_then, slice_get}
use Rattle.class_form.specs.Pools.{constant_at, class_at, descriptor_at}
use Rattle.class_form.specs.Types.{NamesType, IsFieldType, IsMethodType, constant_text}
use Rattle.class_form.specs.declared.body.Instr.{Instr}
use Rattle.class_form.specs.declared.pool.Pool.{Pool}
use Rattle.class_form.specs.declared.types.FieldType.{FieldType}
use Rattle.class_form.specs.declared.types.MethodType.{MethodType}
use Rattle.program_form.specs.Sites.{class_of_constant, element_letter}
use Rattle.text_tables.specs.declared.kinds.Maker.{Maker}
use Rattle.text_tables.specs.declared.kinds.Maker.TheVariants.{Constant, Field, Call, New, Elements, Array, Dimensions, Other}

-- what an opcode makes something of
abbrev pub maker_of : ℕ → Maker
maker_of op =
    if nat_le 18 op && nat_le op 19 then Constant
    else if nat_eq op 178 || nat_eq op 180 then Field
    else if nat_le 182 op && nat_le op 186 then Call
    else if nat_eq op 187 then New
    else if nat_eq op 188 then Elements
    else if nat_eq op 189 then Array
    else if nat_eq op 197 then Dimensions
    else Other

-- the type without its outer dimensions
abbrev pub layer : FieldType → ℕ → FieldType
layer t k = record { dims = t.dims - k; base = t.base }

-- the class of a constant that is loaded
abbrev pub IsLoadedText : Pool → ℕ → List ℕ → Type 0
IsLoadedText pool index x = option_and_then class_of_constant (constant_at pool index) ≡ Some x

-- the array of primitives whose code stands behind the opcode
abbrev pub IsElementsText : List ℕ → ℕ → List ℕ → Type 0
IsElementsText code pc x = (n : ℕ) × (slice_get code (pc + 1) ≡ Some n) × (x ≡ 91 ∷ element_letter n ∷ [])

-- the array of the type that an index names
abbrev pub IsArrayText : Pool → ℕ → List ℕ → Type 0
IsArrayText pool index x =
    (text : List ℕ) × (t : FieldType) × (class_at pool index ≡ Some text) × NamesType text t × (x ≡ constant_text (record { dims = t.dims + 1; base = t.base }))

-- the array that an index names, without its outer dimensions
abbrev pub IsDimensionText : Pool → ℕ → ℕ → List ℕ → Type 0
IsDimensionText pool index k x = (text : List ℕ) × (class_at pool index ≡ Some text) × (x ≡ drop k text)

-- .. of the type of the field that an index names
abbrev pub IsFieldText : Pool → ℕ → ℕ → List ℕ → Type 0
IsFieldText pool index k x =
    (bytes : List ℕ) × (t : FieldType) × (descriptor_at pool index ≡ Some bytes) × IsFieldType bytes t × (x ≡ constant_text (layer t k))

-- .. of what the method answers
abbrev pub IsAnswerText : Pool → ℕ → ℕ → List ℕ → Type 0
IsAnswerText pool index k x =
    (bytes : List ℕ) × (m : MethodType) × (t : FieldType) × (descriptor_at pool index ≡ Some bytes) × IsMethodType bytes m × (m.result ≡ Some t)
    × (x ≡ constant_text (layer t k))

-- the text of the site of this number of an instruction
abbrev pub IsText : Maker → Pool → List ℕ → Instr → ℕ → List ℕ → Type 0
IsText Constant pool code i k x = IsLoadedText pool i.index x
IsText Field pool code i k x = IsFieldText pool i.index k x
IsText Call pool code i k x = IsAnswerText pool i.index k x
IsText New pool code i k x = class_at pool i.index ≡ Some x
IsText Elements pool code i k x = IsElementsText code i.pc x
IsText Array pool code i k x = IsArrayText pool i.index x
IsText Dimensions pool code i k x = IsDimensionText pool i.index k x
IsText Other pool code i k x = ⊥

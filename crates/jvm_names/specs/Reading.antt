-- What reading a descriptor gives.
use Rattle.std.specs.Prelude.{◌≡◌, ℕ, List, ◌∷◌, ◌++◌, Option, Result, Ok, Err}
use Rattle.class_form.specs.declared.types.BaseType.{BaseType}
use Rattle.class_form.specs.declared.types.FieldType.{FieldType}
use Rattle.std.specs.Borrow.{Bor}
use Rattle.class_form.specs.Names.{IsClassName}
use Rattle.class_form.specs.Types.{IsBase, IsType, IsResult, spell_base, spell_type, spell_types, spell_result}
use Rattle.std.specs.List.{AllByRecursion}
use Rattle.class_form.specs.Prefixes.{IsLongestBegin}
use Rattle.jvm_names.specs.declared.error.NameError.{NameError}
use Rattle.jvm_names.specs.declared.error.NameError.TheVariants as reasons

-- the value that the bytes spell; or they spell some value and memory is out; or they spell none, and the place is told as far as which
-- some spelling agrees with them
abbrev pub Reads : {T : Type 0} → (List ℕ → T → Type 0) → List ℕ → Result T NameError → Type 0
Reads Spells bytes (Ok value) = Spells bytes value
Reads {T} Spells bytes (Err reasons.NoMemory) = (value : T) × Spells bytes value
Reads {T} Spells bytes (Err (reasons.Malformed at)) =
    ((value : T) → Spells bytes value → ⊥) × IsLongestBegin (λ text. (value : T) × Spells text value) bytes at

-- the name of a class in front of the bytes, and what follows its `;`
abbrev pub ClassInFront : List ℕ → Result (List ℕ × Bor (List ℕ)) NameError → Type 0
ClassInFront bytes (Ok found) = IsClassName found.0 × (bytes ≡ found.0 ++ 59 ∷ found.1.now)
ClassInFront bytes (Err reason) = reason ≡ reasons.NoMemory

-- a base type in front of the bytes, and what follows it
abbrev pub BaseInFront : List ℕ → Result (BaseType × Bor (List ℕ)) NameError → Type 0
BaseInFront bytes (Ok found) = IsBase found.0 × (bytes ≡ spell_base found.0 ++ found.1.now)
BaseInFront bytes (Err reason) = reason ≡ reasons.NoMemory

-- a type in front of the bytes, and what follows it
abbrev pub TypeInFront : List ℕ → Result (FieldType × Bor (List ℕ)) NameError → Type 0
TypeInFront bytes (Ok found) = IsType found.0 × (bytes ≡ spell_type found.0 ++ found.1.now)
TypeInFront bytes (Err reason) = reason ≡ reasons.NoMemory

-- types of arguments, `)`, and something more
abbrev pub StartsWithArguments : List ℕ → Type 0
StartsWithArguments bytes = (ts : List FieldType) × (rest : List ℕ) × AllByRecursion IsType ts × (bytes ≡ spell_types ts ++ 41 ∷ rest)

-- the types of the arguments, and what follows the `)`
abbrev pub ArgumentsInFront : List ℕ → Result (List FieldType × Bor (List ℕ)) NameError → Type 0
ArgumentsInFront bytes (Ok found) = AllByRecursion IsType found.0 × (bytes ≡ spell_types found.0 ++ 41 ∷ found.1.now)
ArgumentsInFront bytes (Err reason) = reason ≡ reasons.NoMemory

-- the bytes are the descriptor of a result, `V` where there is none
abbrev pub IsOutcome : List ℕ → Option FieldType → Type 0
IsOutcome bytes r = IsResult r × (bytes ≡ spell_result r)

-- the value that the bytes spell, unless memory is out
abbrev pub Makes : {T : Type 0} → (List ℕ → T → Type 0) → List ℕ → Result T NameError → Type 0
Makes Spells bytes (Ok value) = Spells bytes value
Makes Spells bytes (Err reason) = reason ≡ reasons.NoMemory

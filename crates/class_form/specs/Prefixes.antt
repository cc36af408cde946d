-- How far bytes agree with some text of a kind.
use Rattle.std.specs.Prelude.{◌≤◌, ℕ, List, ◌++◌, length, take}
use Rattle.class_form.specs.declared.types.FieldType.{FieldType}
use Rattle.class_form.specs.declared.types.MethodType.{MethodType}
use Rattle.class_form.specs.Types.{IsFieldType, IsMethodType}

-- some text of the kind begins with the bytes
abbrev pub Begins : (List ℕ → Type 0) → List ℕ → Type 0
Begins IsText bytes = (more : List ℕ) × IsText (bytes ++ more)

-- the length of the longest prefix of the bytes that some text of the kind begins with
pub record IsLongestBegin (IsText : List ℕ → Type 0) (bytes : List ℕ) (at : ℕ) : Type 0 where
  pub within : at ≤ length bytes
  pub begins : Begins IsText (take at bytes)
  pub longest : (n : ℕ) → n ≤ length bytes → Begins IsText (take n bytes) → n ≤ at

-- some type has this descriptor
abbrev pub IsFieldDescriptor : List ℕ → Type 0
IsFieldDescriptor bytes = (t : FieldType) × IsFieldType bytes t

-- some method type has this descriptor
abbrev pub IsMethodDescriptor : List ℕ → Type 0
IsMethodDescriptor bytes = (m : MethodType) × IsMethodType bytes m

-- Names of fields, methods and classes (JVMS SE 7 4.2).
use Rattle.std.specs.Prelude.{◌≡◌, ◌≢◌, ◌⊎◌, ℕ, List, [], ◌∷◌, ◌++◌, codes}
use Rattle.std.specs.List.{flat_map, AllByRecursion}
use Rattle.class_form.specs.Utf8.{IsModifiedUtf8}

-- no `.`, `;`, `[` and `/`
abbrev pub IsPlainByte : ℕ → Type 0
IsPlainByte b = (b ≢ 46) × (b ≢ 59) × (b ≢ 91) × (b ≢ 47)

-- modified UTF-8 of at least one byte, with none of `.`, `;`, `[` and `/` (4.2.2)
abbrev pub IsUnqualifiedName : List ℕ → Type 0
IsUnqualifiedName bytes = IsModifiedUtf8 bytes × (bytes ≢ []) × AllByRecursion IsPlainByte bytes

-- no `<` and `>`
abbrev pub IsOutsideBrackets : ℕ → Type 0
IsOutsideBrackets b = (b ≢ 60) × (b ≢ 62)

-- an unqualified name with neither `<` nor `>`, but for `<init>` and `<clinit>` (4.2.2)
abbrev pub IsMethodName : List ℕ → Type 0
IsMethodName bytes = IsUnqualifiedName bytes × (AllByRecursion IsOutsideBrackets bytes ⊎ (bytes ≡ codes "<init>") ⊎ (bytes ≡ codes "<clinit>"))

-- one or more unqualified names, joined by `/` (4.2.1)
abbrev pub IsClassName : List ℕ → Type 0
IsClassName bytes =
    (first : List ℕ) × (others : List (List ℕ)) × IsUnqualifiedName first × AllByRecursion IsUnqualifiedName others
    × (bytes ≡ first ++ flat_map (λ part. 47 ∷ part) others)

-- Which constant pools there are: the rules on constants (JVMS SE 7 4.4), by their numbers.
use Rattle.std.specs.Prelude.{◌≡◌, ◌⊎◌, ◌<◌, ◌≤◌, ◌^◌, ℕ, suc, List, [], ◌∷◌, length, Option, Some, option_and_then}
use Rattle.std.specs.List.{AllByRecursion}
use Rattle.class_form.specs.Utf8.{IsModifiedUtf8}
use Rattle.class_form.specs.Names.{IsUnqualifiedName, IsMethodName, IsClassName}
use Rattle.class_form.specs.Types.{IsFieldType, IsArrayType, IsMethodType}
use Rattle.class_form.specs.Pools.{constant_at, utf_at, name_and_type_of}
use Rattle.class_form.specs.declared.types.FieldType.{FieldType}
use Rattle.class_form.specs.declared.types.MethodType as types
use Rattle.class_form.specs.declared.pool.Pool.{Pool}
use Rattle.class_form.specs.declared.pool.Constant.{Constant}
use Rattle.class_form.specs.declared.pool.Constant.TheVariants.{Utf8, Integer, Float, Long, Double, Class, Text, Field, Method, InterfaceMethod, NameAndType, Handle, MethodType, Dynamic, Second}

-- RULE 1

-- the tags that a pool of this major version may have
abbrev pub IsTag : ℕ → ℕ → Type 0
IsTag major tag = (tag ≡ 1) ⊎ ((3 ≤ tag) × (tag ≤ 12)) ⊎ (((tag ≡ 15) ⊎ (tag ≡ 16) ⊎ (tag ≡ 18)) × (51 ≤ major))

-- the constants that a pool of this major version may have
abbrev pub IsOfVersion : ℕ → Constant → Type 0
IsOfVersion major (Handle kind reference) = 51 ≤ major
IsOfVersion major (MethodType descriptor) = 51 ≤ major
IsOfVersion major (Dynamic bootstrap rest) = 51 ≤ major
IsOfVersion major c = Unit {0}

-- RULE 2, and that the numbers are of their sizes

abbrev pub IsInfo : Constant → Type 0
IsInfo (Utf8 text) = (length text < 2 ^ 16) × IsModifiedUtf8 text
IsInfo (Integer n) = n < 2 ^ 32
IsInfo (Float n) = n < 2 ^ 32
IsInfo (Long n) = n < 2 ^ 64
IsInfo (Double n) = n < 2 ^ 64
IsInfo (Class name) = name < 2 ^ 16
IsInfo (Text text) = text < 2 ^ 16
IsInfo (Field class rest) = (class < 2 ^ 16) × (rest < 2 ^ 16)
IsInfo (Method class rest) = (class < 2 ^ 16) × (rest < 2 ^ 16)
IsInfo (InterfaceMethod class rest) = (class < 2 ^ 16) × (rest < 2 ^ 16)
IsInfo (NameAndType name descriptor) = (name < 2 ^ 16) × (descriptor < 2 ^ 16)
IsInfo (Handle kind reference) = (kind < 2 ^ 8) × (reference < 2 ^ 16)
IsInfo (MethodType descriptor) = descriptor < 2 ^ 16
IsInfo (Dynamic bootstrap rest) = (bootstrap < 2 ^ 16) × (rest < 2 ^ 16)
IsInfo Second = Unit {0}

-- RULE 3: a Long or Double takes two indices, and a second index stands behind one of these only

abbrev pub IsWide : Constant → Type 0
IsWide (Long n) = Unit {0}
IsWide (Double n) = Unit {0}
IsWide c = ⊥

abbrev pub IsSecond : Constant → Type 0
IsSecond Second = Unit {0}
IsSecond c = ⊥

-- the constants behind one that is wide, or isn't
abbrev pub AreIndices : Type 0 → List Constant → Type 0
AreIndices Wide [] = Wide → ⊥
AreIndices Wide (c ∷ cs) = (Wide → IsSecond c) × (IsSecond c → Wide) × AreIndices (IsWide c) cs

-- RULE 4: indices are of their kinds

abbrev pub IsUtf : Pool → ℕ → Type 0
IsUtf p i = (text : List ℕ) × (constant_at p i ≡ Some (Utf8 text))

abbrev pub IsClassIndex : Pool → ℕ → Type 0
IsClassIndex p i = (name : ℕ) × (constant_at p i ≡ Some (Class name))

abbrev pub IsNameAndType : Pool → ℕ → Type 0
IsNameAndType p i = (name : ℕ) × (descriptor : ℕ) × (constant_at p i ≡ Some (NameAndType name descriptor))

-- by the kind of a method handle (table 5.4.3.5-A)
abbrev pub IsReference : Pool → ℕ → ℕ → Type 0
IsReference p kind i =
    ((1 ≤ kind) × (kind ≤ 4) × (class : ℕ) × (rest : ℕ) × (constant_at p i ≡ Some (Field class rest)))
    ⊎ ((5 ≤ kind) × (kind ≤ 8) × (class : ℕ) × (rest : ℕ) × (constant_at p i ≡ Some (Method class rest)))
    ⊎ ((kind ≡ 9) × (class : ℕ) × (rest : ℕ) × (constant_at p i ≡ Some (InterfaceMethod class rest)))

abbrev pub HasKinds : Pool → Constant → Type 0
HasKinds p (Class name) = IsUtf p name
HasKinds p (Text text) = IsUtf p text
HasKinds p (Field class rest) = IsClassIndex p class × IsNameAndType p rest
HasKinds p (Method class rest) = IsClassIndex p class × IsNameAndType p rest
HasKinds p (InterfaceMethod class rest) = IsClassIndex p class × IsNameAndType p rest
HasKinds p (NameAndType name descriptor) = IsUtf p name × IsUtf p descriptor
HasKinds p (Handle kind reference) = IsReference p kind reference
HasKinds p (MethodType descriptor) = IsUtf p descriptor
HasKinds p (Dynamic bootstrap rest) = IsNameAndType p rest
HasKinds p c = Unit {0}

-- RULE 5: texts are of their kinds

abbrev pub IsField : List ℕ → Type 0
IsField text = (t : FieldType) × IsFieldType text t

abbrev pub IsArray : List ℕ → Type 0
IsArray text = (t : FieldType) × IsArrayType text t

abbrev pub IsMethod : List ℕ → Type 0
IsMethod text = (t : types.MethodType) × IsMethodType text t

-- the name and descriptor at an index
abbrev pub name_and_type_at : Pool → ℕ → Option (List ℕ × List ℕ)
name_and_type_at p i = option_and_then (name_and_type_of p) (constant_at p i)

-- an unqualified name and a field type stand at the index
abbrev pub IsFieldAt : Pool → ℕ → Type 0
IsFieldAt p i =
    (name : List ℕ) × (descriptor : List ℕ) × (name_and_type_at p i ≡ Some (name, descriptor)) × IsUnqualifiedName name × IsField descriptor

-- a method name and a method type stand at the index
abbrev pub IsMethodAt : Pool → ℕ → Type 0
IsMethodAt p i =
    (name : List ℕ) × (descriptor : List ℕ) × (name_and_type_at p i ≡ Some (name, descriptor)) × IsMethodName name × IsMethod descriptor

abbrev pub HasTexts : Pool → Constant → Type 0
HasTexts p (Class name) = (text : List ℕ) × (utf_at p name ≡ Some text) × (IsClassName text ⊎ IsArray text)
HasTexts p (Field class rest) = IsFieldAt p rest
HasTexts p (Method class rest) = IsMethodAt p rest
HasTexts p (InterfaceMethod class rest) = IsMethodAt p rest
HasTexts p (NameAndType name descriptor) =
    (n : List ℕ) × (d : List ℕ) × (utf_at p name ≡ Some n) × (utf_at p descriptor ≡ Some d) × IsUnqualifiedName n × (IsField d ⊎ IsMethod d)
HasTexts p (MethodType descriptor) = (text : List ℕ) × (utf_at p descriptor ≡ Some text) × IsMethod text
HasTexts p (Dynamic bootstrap rest) = IsMethodAt p rest
HasTexts p c = Unit {0}

-- THE POOL

pub record IsPool (p : Pool) : Type 0 where
  pub count : suc (length p.constants) < 2 ^ 16
  pub version : AllByRecursion (IsOfVersion p.major) p.constants
  pub infos : AllByRecursion IsInfo p.constants
  pub indices : AreIndices ⊥ p.constants
  pub kinds : AllByRecursion (HasKinds p) p.constants
  pub texts : AllByRecursion (HasTexts p) p.constants

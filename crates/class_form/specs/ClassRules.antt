-- Which class files there are: the rules on all behind the constant pool (JVMS SE 7 4.1 and 4.5 to 4.8), by their numbers, and the spelling of a class file.
use Rattle.std.specs.Prelude.{◌≡◌, ◌⊎◌, ◌<◌, ◌≤◌, ◌+◌, ◌^◌, ◌↔◌, ℕ, List, ◌∷◌, length, Some, All, AllPairs, Any, codes}
use Rattle.class_form.specs.Names.{IsUnqualifiedName, IsMethodName}
use Rattle.class_form.specs.Types.{IsMethodType, slots}
use Rattle.class_form.specs.Pools.{utf_at, class_at}
use Rattle.class_form.specs.PoolRules.{IsPool, IsUtf, IsClassIndex, IsField, IsMethod}
use Rattle.class_form.specs.Classes.{IsStatic, IsNative, IsAbstract, IsInterface}
use Rattle.class_form.specs.Spelling.{spelling, spell_content, spell_code_content}
use Rattle.class_form.specs.declared.types.MethodType.{MethodType}
use Rattle.class_form.specs.declared.pool.Pool.{Pool}
use Rattle.class_form.specs.declared.class_file.ClassFile.{ClassFile}
use Rattle.class_form.specs.declared.class_file.Member.{Member}
use Rattle.class_form.specs.declared.class_file.Attribute.{Attribute}
use Rattle.class_form.specs.declared.class_file.Content.{Content}
use Rattle.class_form.specs.declared.class_file.Content.TheVariants as contents
use Rattle.class_form.specs.declared.class_file.CodeBody.{CodeBody}
use Rattle.class_form.specs.declared.class_file.CodeAttribute.{CodeAttribute}
use Rattle.class_form.specs.declared.class_file.CodeContent.{CodeContent}
use Rattle.class_form.specs.declared.class_file.CodeContent.TheVariants as code_contents
use Rattle.class_form.specs.declared.class_file.Handler.{Handler}

-- the text stands at the index
abbrev pub IsNamed : Pool → ℕ → List ℕ → Type 0
IsNamed p i text = utf_at p i ≡ Some text

-- RULES 6, 7 AND 8: this class, its superclass and its interfaces are no arrays

-- the name of an array type is its descriptor, which begins with `[`
abbrev pub NamesArray : List ℕ → Type 0
NamesArray text = (rest : List ℕ) × (text ≡ 91 ∷ rest)

abbrev pub IsPlainClass : Pool → ℕ → Type 0
IsPlainClass p i = (text : List ℕ) × (class_at p i ≡ Some text) × (NamesArray text → ⊥)

-- java/lang/Object may have none
abbrev pub IsSuperclass : Pool → ℕ → ℕ → Type 0
IsSuperclass p this super = IsPlainClass p super ⊎ ((super ≡ 0) × (class_at p this ≡ Some (codes "java/lang/Object")))

-- RULE 9: a name and a fitting descriptor

abbrev pub AreFieldTexts : Pool → ℕ → ℕ → Type 0
AreFieldTexts p name descriptor = (n : List ℕ) × (d : List ℕ) × IsNamed p name n × IsNamed p descriptor d × IsUnqualifiedName n × IsField d

-- a class initializer takes and gives nothing
abbrev pub AreMethodTexts : Pool → ℕ → ℕ → Type 0
AreMethodTexts p name descriptor =
    (n : List ℕ) × (d : List ℕ) × IsNamed p name n × IsNamed p descriptor d × IsMethodName n × IsMethod d
    × (n ≡ codes "<clinit>" → d ≡ codes "()V")

-- RULE 10: no two fields, and no two methods, have one name and descriptor

abbrev pub HasTextsOf : Pool → Member → ℕ → ℕ → Type 0
HasTextsOf p m name descriptor = (utf_at p m.name ≡ utf_at p name) × (utf_at p m.descriptor ≡ utf_at p descriptor)

abbrev pub AreDistinct : Pool → List Member → Type 0
AreDistinct p ms = AllPairs (λ a b. HasTextsOf p a b.name b.descriptor → ⊥) ms

-- RULE 13: a method has one Code at most, and has one exactly where it is neither abstract nor native, or a class initializer

abbrev pub IsCode : Attribute → Type 0
IsCode a = is_code a.content
  where
    is_code : Content → Type 0
    is_code (contents.Code body) = Unit {0}
    is_code (contents.Other content) = ⊥

abbrev pub IsInitializer : Pool → ℕ → Type 0
IsInitializer p name = IsNamed p name (codes "<clinit>")

abbrev pub NeedsCode : Pool → ℕ → ℕ → Type 0
NeedsCode p flags name = ((IsAbstract flags → ⊥) × (IsNative flags → ⊥)) ⊎ IsInitializer p name

abbrev pub HasCodeWhereNeeded : Pool → ℕ → ℕ → List Attribute → Type 0
HasCodeWhereNeeded p flags name attributes = Any IsCode attributes ↔ NeedsCode p flags name

-- RULE 14: the length of code

abbrev pub IsCodeLength : ℕ → Type 0
IsCodeLength len = (0 < len) × (len ≤ 65535)

-- RULE 15: a handler in code of this length

abbrev pub IsHandler : Pool → ℕ → Handler → Type 0
IsHandler p len h = (h.start < h.end) × (h.end ≤ len) × (h.handler < len) × ((h.catch_type ≡ 0) ⊎ IsClassIndex p h.catch_type)

-- RULE 17: the parameters take n slots, with the receiver's; there are 255 at most, and the body has as many locals

abbrev pub TakesSlots : Pool → ℕ → ℕ → ℕ → Type 0
TakesSlots p flags descriptor n =
    (text : List ℕ) × (m : MethodType) × IsNamed p descriptor text × IsMethodType text m
    × ((IsStatic flags × (n ≡ slots m.arguments)) ⊎ ((IsStatic flags → ⊥) × (n ≡ slots m.arguments + 1)))

abbrev pub HasSlots : Pool → ℕ → ℕ → Type 0
HasSlots p flags descriptor = (n : ℕ) × TakesSlots p flags descriptor n × (n ≤ 255)

abbrev pub HasLocals : ℕ → Attribute → Type 0
HasLocals n a = has_locals a.content
  where
    has_locals : Content → Type 0
    has_locals (contents.Code body) = n ≤ body.max_locals
    has_locals (contents.Other content) = Unit {0}

abbrev pub HasLocalsForAll : Pool → ℕ → ℕ → List Attribute → Type 0
HasLocalsForAll p flags descriptor attributes = (n : ℕ) × TakesSlots p flags descriptor n × All (HasLocals n) attributes

-- RULE 18: the methods of an interface are abstract, but its class initializer

abbrev pub IsOfKind : Pool → ℕ → ℕ → ℕ → Type 0
IsOfKind p class_flags flags name = IsInterface class_flags → IsAbstract flags ⊎ IsInitializer p name

-- ATTRIBUTES, by where they stand. Rule 11: the name is a text. Rule 12: the content has the attribute's length, as it is spelled.

-- RULE 16: a line begins within the code
abbrev pub IsLine : ℕ → ℕ × ℕ → Type 0
IsLine len l = (l.0 < 2 ^ 16) × (l.1 < 2 ^ 16) × (l.0 < len)

-- line tables stand under their name alone
abbrev pub IsCodeContent : Pool → ℕ → ℕ → CodeContent → Type 0
IsCodeContent p len name (code_contents.Lines lines) = IsNamed p name (codes "LineNumberTable") × (length lines < 2 ^ 16) × All (IsLine len) lines
IsCodeContent p len name (code_contents.Other content) = IsNamed p name (codes "LineNumberTable") → ⊥

-- in code of this length
pub record IsCodeAttribute (p : Pool) (len : ℕ) (a : CodeAttribute) : Type 0 where
  pub number : a.name < 2 ^ 16
  pub name : IsUtf p a.name
  pub size : length (spell_code_content a.content) < 2 ^ 32
  pub content : IsCodeContent p len a.name a.content

pub record IsSizedHandler (p : Pool) (len : ℕ) (h : Handler) : Type 0 where
  pub start : h.start < 2 ^ 16
  pub end : h.end < 2 ^ 16
  pub handler : h.handler < 2 ^ 16
  pub catch_type : h.catch_type < 2 ^ 16
  pub fits : IsHandler p len h

pub record IsBody (p : Pool) (b : CodeBody) : Type 0 where
  pub max_stack : b.max_stack < 2 ^ 16
  pub max_locals : b.max_locals < 2 ^ 16
  pub code : IsCodeLength (length b.code)
  pub handler_count : length b.handlers < 2 ^ 16
  pub handlers : All (IsSizedHandler p (length b.code)) b.handlers
  pub attribute_count : length b.attributes < 2 ^ 16
  pub attributes : All (IsCodeAttribute p (length b.code)) b.attributes

-- code stands under its name alone
abbrev pub IsContent : Pool → ℕ → Content → Type 0
IsContent p name (contents.Code body) = IsNamed p name (codes "Code") × IsBody p body
IsContent p name (contents.Other content) = IsNamed p name (codes "Code") → ⊥

-- of a method
pub record IsMethodAttribute (p : Pool) (a : Attribute) : Type 0 where
  pub number : a.name < 2 ^ 16
  pub name : IsUtf p a.name
  pub size : length (spell_content a.content) < 2 ^ 32
  pub content : IsContent p a.name a.content

-- of a field or a class
pub record IsPlainAttribute (p : Pool) (a : Attribute) : Type 0 where
  pub number : a.name < 2 ^ 16
  pub name : IsUtf p a.name
  pub size : length (spell_content a.content) < 2 ^ 32
  pub plain : IsCode a → ⊥

-- MEMBERS

pub record IsFieldMember (p : Pool) (m : Member) : Type 0 where
  pub flags : m.flags < 2 ^ 16
  pub name : m.name < 2 ^ 16
  pub descriptor : m.descriptor < 2 ^ 16
  pub texts : AreFieldTexts p m.name m.descriptor
  pub attribute_count : length m.attributes < 2 ^ 16
  pub attributes : All (IsPlainAttribute p) m.attributes

-- in a class of these flags
pub record IsMethodMember (p : Pool) (class_flags : ℕ) (m : Member) : Type 0 where
  pub flags : m.flags < 2 ^ 16
  pub name : m.name < 2 ^ 16
  pub descriptor : m.descriptor < 2 ^ 16
  pub texts : AreMethodTexts p m.name m.descriptor
  pub slots : HasSlots p m.flags m.descriptor
  pub kind : IsOfKind p class_flags m.flags m.name
  pub attribute_count : length m.attributes < 2 ^ 16
  pub attributes : All (IsMethodAttribute p) m.attributes
  pub one_code : AllPairs (λ a b. IsCode a → IsCode b → ⊥) m.attributes
  pub code : HasCodeWhereNeeded p m.flags m.name m.attributes
  pub locals : HasLocalsForAll p m.flags m.descriptor m.attributes

-- THE CLASS FILE

pub record IsInterfaceIndex (p : Pool) (i : ℕ) : Type 0 where
  pub number : i < 2 ^ 16
  pub class : IsPlainClass p i

abbrev pub IsVersion : ℕ → Type 0
IsVersion major = (45 ≤ major) × (major ≤ 51)

pub record IsClassFile (c : ClassFile) : Type 0 where
  pub minor : c.minor < 2 ^ 16
  pub major : IsVersion c.major
  pub pool_major : c.pool.major ≡ c.major
  pub pool : IsPool c.pool
  pub flags : c.flags < 2 ^ 16
  pub this_number : c.this_class < 2 ^ 16
  pub this_class : IsPlainClass c.pool c.this_class
  pub super_number : c.super_class < 2 ^ 16
  pub super_class : IsSuperclass c.pool c.this_class c.super_class
  pub interface_count : length c.interfaces < 2 ^ 16
  pub interfaces : All (IsInterfaceIndex c.pool) c.interfaces
  pub field_count : length c.fields < 2 ^ 16
  pub fields : All (IsFieldMember c.pool) c.fields
  pub distinct_fields : AreDistinct c.pool c.fields
  pub method_count : length c.methods < 2 ^ 16
  pub methods : All (IsMethodMember c.pool c.flags) c.methods
  pub distinct_methods : AreDistinct c.pool c.methods
  pub attribute_count : length c.attributes < 2 ^ 16
  pub attributes : All (IsPlainAttribute c.pool) c.attributes

-- the bytes are those of the class file
abbrev pub Spells : List ℕ → ClassFile → Type 0
Spells bytes c = IsClassFile c × (bytes ≡ spelling c)

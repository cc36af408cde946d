-- The fields or the methods of classes, by the places where they stand.
use Rattle.std.specs.Prelude.{◌≡◌, ◌<◌, ◌^◌, ◌⊎◌, ℕ, List, [], length, map, All, Contains, Any, slice_get, Option, Some, None, unwrap_or, sum_by, IsSortedByKey}
use Rattle.std.specs.Option.{option_map_or}
use Rattle.std.specs.declared.cmp.Ordering.{Ordering}
use Rattle.std.specs.Ordering.{nat_cmp, ordering_then}
use Rattle.std.specs.Cmp.Lexicographic.{slice_cmp}
use Rattle.slicer_ids.specs.Sets.{IsOrderedListOf}
use Rattle.slicer_ids.specs.declared.ids.ClassId.{ClassId}
use Rattle.class_form.specs.Pools.{utf_at}
use Rattle.class_form.specs.Classes.{Declared, IsClass, IsDeclared, IsPrivate, IsStatic}
use Rattle.class_form.specs.Numbers.{MemberBefore, IsThere}
use Rattle.class_form.specs.declared.pool.Pool.{Pool}
use Rattle.class_form.specs.declared.class_file.ClassFile.{ClassFile}
use Rattle.class_form.specs.declared.class_file.Member.{Member}
use Rattle.hierarchy.specs.declared.members.Kind.{Kind}
use Rattle.hierarchy.specs.declared.members.Kind.TheVariants.{Field, Method}

abbrev pub members_of : Kind → ClassFile → List Member
members_of Field k = k.fields
members_of Method k = k.methods

-- how many members of a kind classes have
abbrev pub count_members : Kind → List ClassFile → ℕ
count_members kind classes = sum_by (λ k. length (members_of kind k)) classes

-- the member of this kind at a place, with its name and descriptor
abbrev pub IsMember : Kind → List ClassFile → Declared → Member → List ℕ → List ℕ → Type 0
IsMember kind classes d m name descriptor =
    (k : ClassFile) × IsClass classes d.class k × IsDeclared k (members_of kind k) name descriptor d.index m

-- the member of this kind, name and descriptor stands at this place
abbrev pub Declares : Kind → List ClassFile → List ℕ → List ℕ → Declared → Type 0
Declares kind classes name descriptor d =
    (k : ClassFile) × (m : Member) × IsClass classes d.class k × IsDeclared k (members_of kind k) name descriptor d.index m

-- a place as code has it
abbrev pub declared_at : ClassId × ℕ → Declared
declared_at p = record { class = p.0.0; index = p.1 }

-- some member stands there
abbrev pub IsPlace : Kind → List ClassFile → ClassId × ℕ → Type 0
IsPlace kind classes p = (k : ClassFile) × IsClass classes p.0.0 k × (p.1 < length (members_of kind k))

-- by class, then by place in the class
abbrev pub PlaceBefore : ClassId × ℕ → ClassId × ℕ → Type 0
PlaceBefore p q = (p.0.0 < q.0.0) ⊎ ((p.0.0 ≡ q.0.0) × (p.1 < q.1))

-- the places up to one that is named by its class and its place there
abbrev pub IsPlaceUpTo : Kind → List ClassFile → ℕ → ℕ → ClassId × ℕ → Type 0
IsPlaceUpTo kind classes c i p = IsPlace kind classes p × ((p.0.0 < c) ⊎ ((p.0.0 ≡ c) × (p.1 < i)))

-- the places of all members
abbrev pub ArePlaces : Kind → List ClassFile → List (ClassId × ℕ) → Type 0
ArePlaces kind classes places = IsOrderedListOf PlaceBefore places (IsPlace kind classes)

-- the text at an index, or no bytes where there is none
abbrev pub text_bytes : Pool → ℕ → List ℕ
text_bytes p i = unwrap_or (utf_at p i) []

abbrev pub name_in : Kind → ClassFile → ℕ → List ℕ
name_in kind k i = option_map_or (λ m. text_bytes k.pool m.name) (slice_get (members_of kind k) i) []

abbrev pub descriptor_in : Kind → ClassFile → ℕ → List ℕ
descriptor_in kind k i = option_map_or (λ m. text_bytes k.pool m.descriptor) (slice_get (members_of kind k) i) []

-- a name and a descriptor
pub record Texts : Type 0 where
  pub name : List ℕ
  pub descriptor : List ℕ

-- .. in a class, by its number
pub record NumberKey : Type 0 where
  pub class : ℕ
  pub texts : Texts

abbrev pub texts_of : List ℕ → List ℕ → Texts
texts_of name descriptor = record { name = name; descriptor = descriptor }

abbrev pub number_key_of : ℕ → List ℕ → List ℕ → NumberKey
number_key_of class name descriptor = record { class = class; texts = texts_of name descriptor }

abbrev pub texts_at : Kind → List ClassFile → ClassId × ℕ → Texts
texts_at kind classes p =
    texts_of (option_map_or (λ k. name_in kind k p.1) (slice_get classes p.0.0) []) (option_map_or (λ k. descriptor_in kind k p.1) (slice_get classes p.0.0) [])

abbrev pub number_key_at : Kind → List ClassFile → ClassId × ℕ → NumberKey
number_key_at kind classes p = record { class = p.0.0; texts = texts_at kind classes p }

-- by name, then by descriptor
abbrev pub texts_cmp : Texts → Texts → Ordering
texts_cmp a b = ordering_then (slice_cmp nat_cmp a.name b.name) (slice_cmp nat_cmp a.descriptor b.descriptor)

-- by class, then by name and descriptor
abbrev pub number_cmp : NumberKey → NumberKey → Ordering
number_cmp a b = ordering_then (nat_cmp a.class b.class) (texts_cmp a.texts b.texts)

-- the same places as those of a list
pub record AreSamePlaces (kind : Kind) (classes : List ClassFile) (places : List (ClassId × ℕ)) : Type 0 where
  pub each : All (IsPlace kind classes) places
  pub whole : (p : ClassId × ℕ) → IsPlace kind classes p → Contains places p

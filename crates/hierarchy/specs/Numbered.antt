-- What is kept of the members of classes, and what is found of it.
use Rattle.std.specs.Prelude.{◌≡◌, ◌<◌, ◌^◌, ℕ, List, length, map, All, slice_get, Some, IsSortedByKey}
use Rattle.slicer_ids.specs.Sets.{IsOrderedListOf}
use Rattle.slicer_ids.specs.declared.ids.ClassId.{ClassId}
use Rattle.class_form.specs.Classes.{Declared}
use Rattle.class_form.specs.Numbers.{MemberBefore, IsThere}
use Rattle.class_form.specs.declared.class_file.ClassFile.{ClassFile}
use Rattle.hierarchy.specs.declared.members.Kind.{Kind}
use Rattle.hierarchy.specs.declared.members.Members.{Members}
use Rattle.hierarchy.specs.Places.{IsMember, Declares, declared_at, AreSamePlaces, texts_at, number_key_at, texts_cmp, number_cmp}

-- the members of a kind, by number and by name and descriptor
pub record AreMembers (kind : Kind) (classes : List ClassFile) (members : Members) : Type 0 where
  pub few : length members.places.items < 2 ^ 32
  pub numbered : IsOrderedListOf (MemberBefore (IsMember kind classes)) (map declared_at members.places.items) (IsThere (IsMember kind classes))
  pub same : AreSamePlaces kind classes members.places.items
  pub sorted : IsSortedByKey (number_key_at kind classes) number_cmp members.places.items
  pub same_again : AreSamePlaces kind classes members.by_texts.items
  pub sorted_by_texts : IsSortedByKey (texts_at kind classes) texts_cmp members.by_texts.items

-- the class declares a member of this name and descriptor
abbrev pub DeclaresSome : Kind → List ClassFile → List ℕ → List ℕ → ℕ → Type 0
DeclaresSome kind classes name descriptor c = (d : Declared) × (d.class ≡ c) × Declares kind classes name descriptor d

-- .. or declares none
abbrev pub DeclaresNone : Kind → List ClassFile → List ℕ → List ℕ → ℕ → Type 0
DeclaresNone kind classes name descriptor c = (d : Declared) → d.class ≡ c → Declares kind classes name descriptor d → ⊥

-- at this place of a list stands the member of this name and descriptor that the class declares
abbrev pub IsNumber : Kind → List ClassFile → List (ClassId × ℕ) → List ℕ → List ℕ → ℕ → ℕ → Type 0
IsNumber kind classes places name descriptor c n =
    (p : ClassId × ℕ) × (slice_get places n ≡ Some p) × (p.0.0 ≡ c) × Declares kind classes name descriptor (declared_at p)

-- Tables made once of a system, in which the rules look up what classes select and which sites a filter passes.
use Rattle.std.specs.Prelude.{◌≡◌, ◌≢◌, ◌⊎◌, ◌↔◌, ◌<◌, ◌^◌, ℕ, Bool, false, List, [], Option, Some, None, Contains, length, slice_get}
use Rattle.std.specs.Global.{Vec}
use Rattle.std.specs.Option.{option_map_or}
use Rattle.std.specs.List.Sorted.{IsNonDecreasingBy}
use Rattle.slicer_ids.specs.declared.ids.ClassId.{ClassId}
use Rattle.slicer_ids.specs.declared.ids.MethodId.{MethodId}
use Rattle.dep_form.specs.declared.rules.SiteInfo.{SiteInfo}
use Rattle.dep_form.specs.declared.system.System.{System}
use Rattle.dep_form.specs.Constraints.{Passes}
use Rattle.points_to.specs.declared.groups.Select.{Select}
use Rattle.points_to.specs.declared.index.Index.{Index}
use Rattle.points_to.specs.Bits.{IsMember, row_of}
use Rattle.points_to.specs.Rules.{site}

abbrev pub group_of : List (Vec Select) → ℕ → List Select
group_of groups c = option_map_or (λ group. group.items) (slice_get groups c) []

-- each class has what it selects
abbrev pub AreGroupsOf : List (ℕ × ClassId × Option MethodId) → List (Vec Select) → Type 0
AreGroupsOf selects groups = (c : ClassId) (x : Select) → Contains (group_of groups c.0) x ↔ Contains selects (x.signature, c, x.target)

abbrev pub AreSorted : List (Vec Select) → Type 0
AreSorted groups = (c : ℕ) → IsNonDecreasingBy (λ (x : Select). x.signature) (group_of groups c)

-- a class got one more
abbrev pub AddsSelect : List (Vec Select) → List (Vec Select) → ℕ → Select → Type 0
AddsSelect old new class select = (c : ℕ) (x : Select) → Contains (group_of new c) x ↔ (Contains (group_of old c) x ⊎ ((c ≡ class) × (x ≡ select)))

-- the selects of one class were put in order
pub record SortsGroup (old new : List (Vec Select)) (at : ℕ) : Type 0 where
  pub len : length new ≡ length old
  pub same : (c : ℕ) (x : Select) → Contains (group_of new c) x ↔ Contains (group_of old c) x
  pub sorted : IsNonDecreasingBy (λ (x : Select). x.signature) (group_of new at)
  pub other : (c : ℕ) → c ≢ at → group_of new c ≡ group_of old c

-- row c has the classes that are subclasses of c
abbrev pub AreBelow : List (ClassId × ClassId) → List (Vec ℕ) → Type 0
AreBelow subclasses rows = (c : ClassId) (d : ClassId) → IsMember (row_of rows c.0) d.0 ↔ Contains subclasses (d, c)

-- the site is no array, and of an outside class or of a subclass of the one to keep
abbrev pub IsKept : List (Vec ℕ) → SiteInfo → ClassId → Type 0
IsKept rows info keep = (info.array ≡ false) × ((info.class ≡ None) ⊎ ((d : ClassId) × (info.class ≡ Some d) × IsMember (row_of rows keep.0) d.0))

-- the row has the sites below n that the filter passes
abbrev pub IsMaskBelow : System → ClassId → ℕ → List ℕ → Type 0
IsMaskBelow s keep n mask = (k : ℕ) → IsMember mask k ↔ ((k < n) × Passes s (Some keep) (site k))

-- the row has the sites that the filter passes
abbrev pub IsMask : System → ClassId → List ℕ → Type 0
IsMask s keep mask = (n : ℕ) → IsMember mask n ↔ Passes s (Some keep) (site n)

abbrev pub AreMasks : System → List (Option (Vec ℕ)) → Type 0
AreMasks s masks = (c : ClassId) (mask : Vec ℕ) → slice_get masks c.0 ≡ Some (Some mask) → IsMask s c mask.items

-- sites, calls and methods have numbers of 32 bits
abbrev pub IsSmall : System → Type 0
IsSmall s = (length s.sites < 2 ^ 32) × (length s.calls < 2 ^ 32) × (length s.methods < 2 ^ 32)

pub record IsIndexOf (s : System) (index : Index) : Type 0 where
  pub small : IsSmall s
  pub groups : AreGroupsOf s.selects index.groups.items
  pub sorted : AreSorted index.groups.items
  pub below : AreBelow s.subclasses index.below.items
  pub masks : AreMasks s index.masks.items

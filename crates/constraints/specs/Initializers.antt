-- The class initializers, by the numbers of methods.
use Rattle.std.specs.Prelude.{◌≡◌, ◌<◌, ◌≤◌, ℕ, List, Some, slice_get}
use Rattle.slicer_ids.specs.declared.ids.ClassId.{ClassId}
use Rattle.slicer_ids.specs.declared.ids.MethodId.{MethodId}
use Rattle.class_form.specs.Pools.{utf_at}
use Rattle.class_form.specs.Resolution.{clinit_name}
use Rattle.class_form.specs.declared.class_file.ClassFile.{ClassFile}
use Rattle.class_form.specs.declared.class_file.Member.{Member}

-- the method at an index of the class file is its initializer
abbrev pub IsInitializerAt : ClassFile → ℕ → Type 0
IsInitializerAt k i = (x : Member) × (slice_get k.methods i ≡ Some x) × (utf_at k.pool x.name ≡ Some clinit_name)

-- .. the method at a place
abbrev pub IsInitializerIn : List ClassFile → ClassId × ℕ → Type 0
IsInitializerIn classes place = (k : ClassFile) × (slice_get classes place.0.0 ≡ Some k) × IsInitializerAt k place.1

-- the class and the method of a number, where the one at the place is an initializer
abbrev pub IsNumberedAt : List ClassFile → ClassId × ℕ → ℕ → ClassId × MethodId → Type 0
IsNumberedAt classes place n e = IsInitializerIn classes place × (e ≡ (place.0, record { 0 = n }))

-- .. where it stands there by the places of all methods
abbrev pub IsNumbered : List ClassFile → List (ClassId × ℕ) → ℕ → ClassId × MethodId → Type 0
IsNumbered classes places n e = (place : ClassId × ℕ) × (slice_get places n ≡ Some place) × IsNumberedAt classes place n e

-- .. of so many methods
abbrev pub FromNumbers : List ClassFile → List (ClassId × ℕ) → ℕ → ClassId × MethodId → Type 0
FromNumbers classes places count e = (n : ℕ) × (n < count) × IsNumbered classes places n e

abbrev pub ClassRises : ClassId × MethodId → ClassId × MethodId → Type 0
ClassRises a b = a.0.0 ≤ b.0.0

-- The states of the code as those of the tests of names and descriptors.
use Rattle.std.specs.Prelude.{◌≡◌, ℕ, true, false, List, Option, Some, None, Result, Ok, Err}
use Rattle.class_form.specs.NameTests as tests
use Rattle.jvm_names.specs.declared.utf8.Left.{Left}
use Rattle.jvm_names.specs.declared.utf8.Left.TheVariants.{Nothing, Zero, One, Two, High}
use Rattle.jvm_names.specs.declared.names.InName.{InName}
use Rattle.jvm_names.specs.declared.names.InName.TheVariants.{Fresh, Begun}
use Rattle.jvm_names.specs.declared.descriptor.Place.{Place}
use Rattle.jvm_names.specs.declared.descriptor.Place.TheVariants.{Alone, Argument, Outcome}
use Rattle.jvm_names.specs.declared.descriptor.State.{State}
use Rattle.jvm_names.specs.declared.descriptor.State.TheVariants.{Open, Between, InType, InClass, End}

abbrev pub left_of : Left → tests.Left
left_of Nothing = tests.Nothing
left_of Zero = tests.Zero
left_of One = tests.One
left_of Two = tests.Two
left_of High = tests.High

abbrev pub name_of : InName → tests.InName
name_of Fresh = tests.Fresh
name_of (Begun left) = tests.Begun (left_of left)

abbrev pub place_of : Place → tests.Place
place_of Alone = tests.Alone
place_of (Argument slots) = tests.Argument slots
place_of (Outcome slots) = tests.Outcome slots

abbrev pub state_of : State → tests.InDescriptor
state_of Open = tests.Open
state_of (Between slots) = tests.Between slots
state_of (InType place dims) = tests.InType (place_of place) dims
state_of (InClass place name) = tests.InClass (place_of place) (name_of name)
state_of (End slots) = tests.End slots

-- the state that the bytes lead to, or how many steps are taken before a byte has none
abbrev pub ScanIs : tests.InDescriptor → List ℕ → Result State ℕ → Type 0
ScanIs from bytes (Ok s) = tests.reached tests.go_on_descriptor from bytes ≡ Some (state_of s)
ScanIs from bytes (Err at) = (tests.reached tests.go_on_descriptor from bytes ≡ None) × (at ≡ tests.steps_taken tests.go_on_descriptor from bytes)

-- the bytes lead to the end of a descriptor, or how many steps are taken in them
abbrev pub FaultIs : tests.InDescriptor → List ℕ → Option ℕ → Type 0
FaultIs from bytes None = tests.is_end (tests.reached tests.go_on_descriptor from bytes) ≡ true
FaultIs from bytes (Some at) = (tests.is_end (tests.reached tests.go_on_descriptor from bytes) ≡ false) × (at ≡ tests.steps_taken tests.go_on_descriptor from bytes)

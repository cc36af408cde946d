-- All flows but those of operands.
use Rattle.std.specs.Prelude.{◌≡◌, ◌⊎◌, List}
use Rattle.slicer_ids.specs.declared.ids.MethodId.{MethodId}
use Rattle.dep_form.specs.declared.node.Label.{Label}
use Rattle.dep_form.specs.declared.node.Node.{Node}
use Rattle.dep_form.specs.declared.system.System.{System}
use Rattle.program_form.specs.Programs.{Program}
use Rattle.edge_tables.specs.Again.{AgainFlow}
use Rattle.edge_tables.specs.Calls.{BackFlow, IntoFlow}
use Rattle.edge_tables.specs.Ends.{EndFlow}
use Rattle.edge_tables.specs.Outside.{OutsideFlow}

-- what flows within a method
abbrev pub LocalFlow : Program → System → MethodId → Node → MethodId → Node → Label → Type 0
LocalFlow p s a k m j l = (a ≡ m) × (EndFlow p m k j l ⊎ (OutsideFlow s m k j l ⊎ AgainFlow s m k j l))

-- .. and what flows into a method that is called, and back
abbrev pub OtherFlow : Program → System → List MethodId → MethodId → Node → MethodId → Node → Label → Type 0
OtherFlow p s entries a k m j l = LocalFlow p s a k m j l ⊎ (IntoFlow s entries a k m j l ⊎ BackFlow s entries a k m j l)

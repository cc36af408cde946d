-- Exits by the methods and places of their nodes.
use Rattle.std.specs.Prelude.{◌≡◌, ◌<◌, ◌+◌, ℕ, true, List, Option, Some, All, AllPairs, length, slice_get}
use Rattle.slicer_ids.specs.declared.ids.NodeId.{NodeId}
use Rattle.dep_form.specs.declared.input.MethodInput.{MethodInput}
use Rattle.dep_form.specs.declared.node.Node.{Node}
use Rattle.dep_form.specs.Nodes.{is_exit}
use Rattle.dep_form.specs.WithinFacts.{NodeBefore}
use Rattle.worklists.proofs.Growing.{FromBelow}

abbrev pub numbered : ℕ → NodeId
numbered n = record { 0 = n }

-- the number of the node at this place, which is an exit
abbrev pub IsExitPlace : ℕ → List Node → ℕ → NodeId → Type 0
IsExitPlace first nodes k x = ((node : Node) × (slice_get nodes k ≡ Some node) × (is_exit node ≡ true)) × (x ≡ numbered (first + k))

-- the number of an exit of the input, where there is one
abbrev pub IsExitIn : Option MethodInput → NodeId → Type 0
IsExitIn o x = (i : MethodInput) × (o ≡ Some i) × FromBelow (IsExitPlace i.first.0 i.nodes) (length i.nodes) x

-- .. of the method of this number
abbrev pub IsExitOf : List (Option MethodInput) → ℕ → NodeId → Type 0
IsExitOf inputs m x = (o : Option MethodInput) × (slice_get inputs m ≡ Some o) × IsExitIn o x

-- numbers in order, all of them below a bound
pub record IsRising (bound : ℕ) (xs : List NodeId) : Type 0 where
  pub order : AllPairs NodeBefore xs
  pub below : All (λ (n : NodeId). n.0 < bound) xs

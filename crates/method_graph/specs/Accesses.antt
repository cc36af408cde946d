-- Accesses of locations.
use Rattle.std.specs.Prelude.{◌≡◌, ◌≤◌, ◌-◌, ℕ, List, Some, slice_get}
use Rattle.std.specs.List.Sorted.{IsNonDecreasingBy}
use Rattle.slicer_ids.specs.declared.ids.NodeId.{NodeId}
use Rattle.slicer_ids.specs.declared.ids.LocId.{LocId}
use Rattle.dep_form.specs.declared.node.Node.{Node}
use Rattle.method_graph.specs.declared.locations.Access.{Access}

-- an access of the input's list
abbrev pub access_of : ℕ × NodeId × LocId → Access
access_of x = record { location = x.2; point = x.0; node = x.1 }

-- by location
abbrev pub AreByLocation : List Access → Type 0
AreByLocation xs = IsNonDecreasingBy (λ (a : Access). a.location.0) xs

-- a node that stands for the location on entry, or on exit
abbrev pub IsHead : (LocId → Node) → ℕ → List Node → Access → Type 0
IsHead kind first nodes x =
    (first ≤ x.node.0) × (slice_get nodes (x.node.0 - first) ≡ Some (kind x.location)) × (x.point ≡ 0)

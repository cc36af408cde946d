-- Where locations are defined and used in a method, and what flows from there.
use Rattle.std.specs.Prelude.{◌≡◌, ◌⊎◌, ◌<◌, ◌↔◌, ℕ, List, Contains}
use Rattle.slicer_ids.specs.Walks.{LeadsOn}
use Rattle.slicer_ids.specs.declared.ids.NodeId.{NodeId}
use Rattle.slicer_ids.specs.declared.ids.LocId.{LocId}
use Rattle.dep_form.specs.declared.node.Node.TheVariants.{HeapIn, HeapOut}
use Rattle.dep_form.specs.declared.input.MethodInput.{MethodInput}
use Rattle.dep_form.specs.Inputs.{IsNodeOf}
use Rattle.method_graph.specs.declared.edges.Ending.{Ending}
use Rattle.method_graph.specs.declared.locations.Access.{Access}
use Rattle.method_graph.specs.declared.heap.Heap.{Heap}
use Rattle.method_graph.specs.declared.flow.Ways.{Ways}
use Rattle.method_graph.specs.Flows.{HasWay, Goes}
use Rattle.method_graph.specs.Accesses.{access_of}
use Rattle.method_graph.specs.Edges.{flows_to}

-- the ways and accesses are those of the method
pub record IsHeapOf (i : MethodInput) (h : Heap) : Type 0 where
  pub points : h.ways.points ≡ i.points
  pub ways : (p q : ℕ) → p < i.points → q < i.points → HasWay h.ways.width h.ways.words.items p q ↔ LeadsOn (Goes i.flow) p q
  pub puts : (x : Access) → Contains h.puts.items x ↔ ((y : ℕ × NodeId × LocId) × Contains i.puts y × (x ≡ access_of y))
  pub gets : (x : Access) → Contains h.gets.items x ↔ ((y : ℕ × NodeId × LocId) × Contains i.gets y × (x ≡ access_of y))
  pub entries : (x : Access) → Contains h.entries.items x ↔ (IsNodeOf i x.node (HeapIn x.location) × (x.point ≡ 0))
  pub exits : (x : Access) → Contains h.exits.items x ↔ (IsNodeOf i x.node (HeapOut x.location) × (x.point ≡ 0))

-- both accesses are in these lists, and of one location
abbrev pub Meet : List Access → List Access → Access → Access → Type 0
Meet sources targets s t = Contains sources s × Contains targets t × (s.location ≡ t.location)

-- a flow between accesses of the two lists that meet
abbrev pub FlowsBetween : List Access → List Access → Ending → Type 0
FlowsBetween sources targets x = (s : Access) × (t : Access) × Meet sources targets s t × (x ≡ flows_to s.node t.node)

-- the same where control leads from the one to the other
abbrev pub FlowsByWays : Ways → List Access → List Access → Ending → Type 0
FlowsByWays ways sources targets x =
    (s : Access) × (t : Access) × Meet sources targets s t × HasWay ways.width ways.words.items s.point t.point × (x ≡ flows_to s.node t.node)

-- the flows of all locations
abbrev pub HeapFlows : Heap → Ending → Type 0
HeapFlows h x = FlowsByWays h.ways h.puts.items h.gets.items x ⊎ (FlowsBetween h.entries.items h.gets.items x ⊎ FlowsBetween h.puts.items h.exits.items x)

-- When the parts of an input fit together.
use Rattle.std.specs.Prelude.{◌≡◌, ◌<◌, ◌≤◌, ◌+◌, ◌^◌, ℕ, All, AllPairs, length}
use Rattle.slicer_ids.specs.declared.ids.LocId.{LocId}
use Rattle.slicer_ids.specs.declared.ids.NodeId.{NodeId}
use Rattle.dep_form.specs.Among.{IsAmong, ArePoints}
use Rattle.dep_form.specs.declared.node.Edge.{Edge}
use Rattle.dep_form.specs.declared.input.MethodInput.{MethodInput}
use Rattle.checked_facts.specs.Rising.{FormalBefore}
use Rattle.checked_facts.specs.declared.input.InputParts.{InputParts}

abbrev pub AreSmall : InputParts → Type 0
AreSmall p = (length p.nodes < 2 ^ 32) × (p.first.0 + length p.nodes ≤ 2 ^ 32)

-- the edge ends in a node of the input
abbrev pub EndsAmong : InputParts → Edge → Type 0
EndsAmong p e = IsAmong p.first.0 p.nodes e.to.0

-- a definition or use at a point, by a node of the input
abbrev pub IsUse : InputParts → ℕ × NodeId × LocId → Type 0
IsUse p x = (x.0 < p.points) × IsAmong p.first.0 p.nodes x.1.0

abbrev pub IsFlowWithin : ℕ → ℕ × ℕ → Type 0
IsFlowWithin points x = ArePoints points x.0 x.1

pub record AreInputParts (p : InputParts) : Type 0 where
  pub are_small : AreSmall p
  pub formals : AllPairs FormalBefore p.nodes
  pub ends_among : All (EndsAmong p) p.direct
  pub put_uses : All (IsUse p) p.puts
  pub get_uses : All (IsUse p) p.gets
  pub steps : All (IsFlowWithin p.points) p.flow

-- the input is made of the parts
pub record IsInputOfParts (p : InputParts) (i : MethodInput) : Type 0 where
  pub method_is : i.method ≡ p.method
  pub first_is : i.first ≡ p.first
  pub nodes_are : i.nodes ≡ p.nodes
  pub points_are : i.points ≡ p.points
  pub flow_is : i.flow ≡ p.flow
  pub direct_is : i.direct ≡ p.direct
  pub puts_are : i.puts ≡ p.puts
  pub gets_are : i.gets ≡ p.gets

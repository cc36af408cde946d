-- Inputs by the rows of their nodes.
use Rattle.std.specs.Prelude.{◌≡◌, ◌⊎◌, ◌<◌, ◌↔◌, ℕ, List, Option, Some, None, AllPairs, Contains, length, slice_get}
use Rattle.slicer_ids.specs.declared.ids.LocId.{LocId}
use Rattle.slicer_ids.specs.declared.ids.MethodId.{MethodId}
use Rattle.slicer_ids.specs.declared.ids.NodeId.{NodeId}
use Rattle.dep_form.specs.declared.input.MethodInput.{MethodInput}
use Rattle.dep_form.specs.declared.node.Edge.{Edge}
use Rattle.dep_form.specs.declared.node.Node.{Node}
use Rattle.dep_form.specs.Constraints.{IsRoot, SystemHolds}
use Rattle.dep_form.specs.Graphs.{EdgeBefore}
use Rattle.dep_form.specs.PointsTo.{Reached}
use Rattle.program_form.specs.Programs.{Program}
use Rattle.fact_form.specs.EdgeNumbers.{IsDirect}
use Rattle.fact_form.specs.FactTables.{UseBefore}
use Rattle.edge_tables.specs.Rows.{IsFlowEdge, IsGoodRow, IsRow}
use Rattle.input_tables.specs.Control.{IsControlOf}
use Rattle.input_tables.specs.Uses.{AreGetsOf, ArePutsOf}
use Rattle.input_lists.specs.Scenes.{IsNumberedProgram}
use Rattle.input_lists.specs.declared.scene.Scene.{Scene}

-- the row of the method
abbrev pub HasRow : Scene → MethodId → ℕ → List Node → Type 0
HasRow x m first nodes = IsRow x.edges.rows.now x.edges.firsts.now m first nodes × IsGoodRow first nodes

-- the direct edges that end in the nodes of the method
abbrev pub AreDirectOf : Scene → MethodId → List Edge → Type 0
AreDirectOf x m edges =
    (p : Program) → IsNumberedProgram x.edges x.effects.effects.now p → (e : Edge) →
    Contains edges e ↔ IsFlowEdge x.edges.rows.now x.edges.firsts.now (IsDirect p x.edges.system.now x.edges.entries.now) m e

-- the input of the method, made of its row
pub record IsInputBy (x : Scene) (m : MethodId) (i : MethodInput) : Type 0 where
  pub method : i.method ≡ m
  pub row : HasRow x m i.first.0 i.nodes
  pub control : IsControlOf x.edges.bodies.now m i.points i.flow
  pub direct : AreDirectOf x m i.direct
  pub direct_order : AllPairs EdgeBefore i.direct
  pub puts : ArePutsOf x.edges.bodies.now x.effects.system.now x.effects.effects.now m i.first.0 i.nodes i.puts
  pub puts_order : AllPairs UseBefore i.puts
  pub gets : AreGetsOf x.edges.bodies.now x.effects.system.now x.effects.effects.now m i.first.0 i.nodes i.gets
  pub gets_order : AllPairs UseBefore i.gets

-- it may run, or is the root, and this is its input; or there is none
abbrev pub IsOptionOf : Scene → MethodId → Option MethodInput → Type 0
IsOptionOf x m (Some i) = (SystemHolds x.edges.system.now (Reached m) ⊎ IsRoot x.edges.system.now m) × IsInputBy x m i
IsOptionOf x m None = SystemHolds x.edges.system.now (Reached m) ⊎ IsRoot x.edges.system.now m → ⊥

-- the inputs of the first methods
pub record AreInputsBelow (x : Scene) (count : ℕ) (inputs : List (Option MethodInput)) : Type 0 where
  pub size : length inputs ≡ count
  pub each : (m : MethodId) (o : Option MethodInput) → slice_get inputs m.0 ≡ Some o → IsOptionOf x m o

-- What a clause says of a store and of a pass.
use Rattle.std.specs.Prelude.{◌≡◌, ◌<◌, ℕ, List, Option, Some, None, length, slice_get, option_and_then}
use Rattle.std.specs.declared.alloc.Global.{Global}
use Rattle.once_cell.specs.Once.{cell_name}
use Rattle.slicer_ids.specs.declared.ids.MethodId.{MethodId}
use Rattle.dep_form.specs.declared.graph.Graph.{Graph}
use Rattle.dep_form.specs.declared.input.MethodInput.{MethodInput}
use Rattle.dep_form.specs.declared.facts.Facts.{Facts}
use Rattle.dep_form.specs.Inputs.{IsInputOf}
use Rattle.dep_form.specs.Graphs.{IsGraphOf}
use Rattle.graph_store.specs.declared.published.Published.{Published}
use Rattle.graph_store.specs.declared.pass.Slot.{Slot}
use Rattle.graph_store.specs.declared.pass.GraphPass.{GraphPass}
use Rattle.graph_store.specs.Pass.{graph_of, Fits, KeepsSlot}

-- the graph that the pass gives for a method, where it has seen it
abbrev pub gives : GraphPass → ℕ → Option Graph
gives p m = option_and_then (λ (t : Slot). graph_of t.seen) (slice_get p.slots.items m)

-- the pass's note of the method knows that its cell holds this value
abbrev pub KnowsCell : GraphPass → ℕ → Published → Type 0
KnowsCell p m x = (t : Slot) × (slice_get p.slots.items m ≡ Some t) × (t.note.known ≡ Some x)

-- the pass has a note of each of these cells
pub record IsPassOf (cells : List (Global × ℕ)) (p : GraphPass) : Type 0 where
  pub count : length p.slots.items ≡ length cells
  pub each : (m : ℕ) (c : Global × ℕ) (t : Slot) → slice_get cells m ≡ Some c → slice_get p.slots.items m ≡ Some t → t.note.cell ≡ cell_name c

-- the pass gives no graph
abbrev pub SawNothing : GraphPass → Type 0
SawNothing p = (m : ℕ) → gives p m ≡ None

-- what the pass has seen of the methods of the facts, it has seen with their inputs
pub record HasInputsOf (f : Facts) (p : GraphPass) : Type 0 where
  pub count : length p.slots.items ≡ length f.inputs
  pub each : (m : ℕ) (i : MethodInput) (t : Slot) → slice_get f.inputs m ≡ Some (Some i) → slice_get p.slots.items m ≡ Some t → Fits i t

-- what the first pass knew and gave, the second knows and gives
pub record Keeps (p q : GraphPass) : Type 0 where
  pub known : (m : ℕ) (x : Published) → KnowsCell p m x → KnowsCell q m x
  pub given : (m : ℕ) (g : Graph) → gives p m ≡ Some g → gives q m ≡ Some g

-- the pass knows the value of the method's cell, and gives that value's graph where its input is the method's, and else the graph of
-- the method's input
pub record HasSeen (f : Facts) (p : GraphPass) (m : MethodId) (g : Graph) : Type 0 where
  pub input : MethodInput
  pub value : Published
  pub is_input : IsInputOf f.inputs m input
  pub known : KnowsCell p m.0 value
  pub given : gives p m.0 ≡ Some g
  pub shared : value.input ≡ input → g ≡ value.graph
  pub right : IsGraphOf input g

-- What a pass has seen of the cells.
use Rattle.std.specs.Prelude.{◌≡◌, ◌<◌, ℕ, List, Option, Some, None, length, slice_get, option_and_then}
use Rattle.dep_form.specs.declared.graph.Graph.{Graph}
use Rattle.dep_form.specs.declared.input.MethodInput.{MethodInput}
use Rattle.dep_form.specs.Graphs.{IsGraphOf}
use Rattle.graph_store.specs.declared.published.Published.{Published}
use Rattle.graph_store.specs.declared.pass.Seen.{Seen}
use Rattle.graph_store.specs.declared.pass.Seen.TheVariants.{No, Shared, Own}
use Rattle.graph_store.specs.declared.pass.Slot.{Slot}

-- the graph that it gives, where it has seen the method
abbrev pub graph_of : Seen → Option Graph
graph_of No = None
graph_of (Shared r) = Some r.now.graph
graph_of (Own g) = Some g

abbrev pub IsShared : Seen → Type 0
IsShared (Shared r) = Unit {0}
IsShared seen = ⊥

-- what is given beside what is known of the cell's value: that value's graph where the value has this input, and else the graph of
-- this input
abbrev pub FitsSeen : MethodInput → Option Published → Seen → Type 0
FitsSeen i known No = Unit {0}
FitsSeen i known (Shared r) = (known ≡ Some r.now) × (r.now.input ≡ i)
FitsSeen i known (Own g) = (x : Published) × (known ≡ Some x) × (x.input ≡ i → ⊥) × IsGraphOf i g

abbrev pub Fits : MethodInput → Slot → Type 0
Fits i t = FitsSeen i t.note.known t.seen

-- what it knew it knows, and what it gave it gives
pub record KeepsSlot (t u : Slot) : Type 0 where
  pub known : (x : Published) → t.note.known ≡ Some x → u.note.known ≡ Some x
  pub given : (g : Graph) → graph_of t.seen ≡ Some g → graph_of u.seen ≡ Some g

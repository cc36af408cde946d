-- Graphs that are built when they are asked for.
use Rattle.std.specs.Prelude.{◌≡◌, ℕ, List, Option, Some, refl, length, slice_get, option_and_then}
use Rattle.std.proofs.Common.{◌∙◌}
use Rattle.slicer_ids.specs.declared.ids.MethodId.{MethodId}
use Rattle.dep_form.specs.declared.graph.Graph.{Graph}
use Rattle.dep_form.specs.declared.facts.Facts.{Facts}
use Rattle.dep_form.specs.Graphs.{IsGraphIn}
use Rattle.method_graph.specs.declared.own.OwnGraphs.{OwnGraphs}

abbrev pub facts_of : OwnGraphs → Facts
facts_of s = s.facts.now

-- the graph of a method, where it was built
abbrev pub graph_at : List (Option Graph) → ℕ → Option Graph
graph_at graphs m = option_and_then (λ g. g) (slice_get graphs m)

-- each graph that was built is that of the method's input
pub record AreOwn (s : OwnGraphs) : Type 0 where
  pub size : length s.graphs.items ≡ length s.facts.now.inputs
  pub right : (m : MethodId) (g : Graph) → graph_at s.graphs.items m.0 ≡ Some g → IsGraphIn s.facts.now.inputs m g

-- what was built stays
abbrev pub AreKept : OwnGraphs → OwnGraphs → Type 0
AreKept x y = (y.facts.now ≡ x.facts.now) × ((m : ℕ) (g : Graph) → graph_at x.graphs.items m ≡ Some g → graph_at y.graphs.items m ≡ Some g)

pub kept_refl : (x : OwnGraphs) → AreKept x x
kept_refl x = (refl, λ m g e. e)

pub kept_trans : (x y z : OwnGraphs) → AreKept x y → AreKept y z → AreKept x z
kept_trans x y z a b = (b.0 ∙ a.0, λ m g e. b.1 m g (a.1 m g e))

pub kept_facts : (x y : OwnGraphs) → AreKept x y → facts_of y ≡ facts_of x
kept_facts x y a = a.0

-- Edges by where they end.
use Rattle.std.specs.Prelude.{◌≡◌, ◌<◌, ◌⊎◌, ◌+◌, ◌↔◌, ℕ, List, AllPairs, Contains, Some, length, map, slice_get}
use Rattle.slicer_ids.specs.declared.ids.NodeId.{NodeId}
use Rattle.dep_form.specs.declared.node.Edge.{Edge}
use Rattle.dep_form.specs.declared.node.Label.TheVariants.{Thin}
use Rattle.dep_form.specs.Graphs.{label_kind, label_call}
use Rattle.method_graph.specs.declared.edges.Ending.{Ending}

abbrev pub edge_of : Ending → Edge
edge_of x = record { from = x.from; to = x.to; label = x.label }

abbrev pub ending_of : Edge → Ending
ending_of e = record { to = e.to; from = e.from; label = e.label }

-- by where they end, then where they start, then their label
abbrev pub EndingBefore : Ending → Ending → Type 0
EndingBefore a b =
    (a.to.0 < b.to.0)
    ⊎ ((a.to ≡ b.to)
    × ((a.from.0 < b.from.0)
    ⊎ ((a.from ≡ b.from)
    × ((label_kind a.label < label_kind b.label)
    ⊎ ((label_kind a.label ≡ label_kind b.label) × (label_call a.label < label_call b.label))))))

-- a value flows from the one node to the other
abbrev pub flows_to : NodeId → NodeId → Ending
flows_to a b = record { to = b; from = a; label = Thin }

-- for each node, counted from the first one, the edges that end in it, in order
pub record AreIncoming (edges : List Ending) (first nodes : ℕ) (lists : List (List Edge)) : Type 0 where
  pub size : length lists ≡ nodes
  pub each : (k : ℕ) (es : List Edge) → slice_get lists k ≡ Some es →
      (run : List Ending) × (es ≡ map edge_of run) × AllPairs EndingBefore run × ((x : Ending) → Contains run x ↔ (Contains edges x × (x.to.0 ≡ first + k)))

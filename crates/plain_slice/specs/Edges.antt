-- Lists of edges made from others, and the formals of a summary.
use Rattle.std.specs.Prelude.{◌≡◌, ℕ, List, Contains, Some, slice_get}
use Rattle.slicer_ids.specs.declared.ids.NodeId.{NodeId}
use Rattle.dep_form.specs.declared.node.Edge.{Edge}
use Rattle.dep_form.specs.declared.node.Label.TheVariants.{Base}
use Rattle.dep_form.specs.Paths.{HasSameLevelPath}
use Rattle.dep_form.specs.Slices.{plain}
use Rattle.plain_slice.specs.declared.table.Pair.{Pair}
use Rattle.plain_slice.specs.Tables.{pair}

-- an edge without telling whether a base is used
abbrev pub IsPlainOf : Edge → Edge → Type 0
IsPlainOf g e = e ≡ record g { label = plain g.label }

-- an edge that counts where the bases of these nodes are expanded
abbrev pub Counts : List NodeId → Edge → Type 0
Counts asked e = e.label ≡ Base → Contains asked e.to

-- the table has the pair of the formal of this number and the exit
abbrev pub Leads : List Pair → List NodeId → NodeId → ℕ → Type 0
Leads pairs formals exit k = (g : NodeId) × (slice_get formals k ≡ Some g) × Contains pairs (pair g.0 exit.0)

-- the formal of this number leads to the exit within one call
abbrev pub IsInSummary : List Edge → List NodeId → NodeId → ℕ → Type 0
IsInSummary edges formals exit k = (g : NodeId) × (slice_get formals k ≡ Some g) × HasSameLevelPath (Contains edges) g exit

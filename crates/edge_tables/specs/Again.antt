-- How locations go round between the calls of the root.
use Rattle.std.specs.Prelude.{◌≡◌, ◌<◌, ℕ, List, Contains, length}
use Rattle.slicer_ids.specs.declared.ids.LocId.{LocId}
use Rattle.slicer_ids.specs.declared.ids.MethodId.{MethodId}
use Rattle.dep_form.specs.declared.node.Edge.{Edge}
use Rattle.dep_form.specs.declared.node.Label.{Label}
use Rattle.dep_form.specs.declared.node.Label.TheVariants.{Thin}
use Rattle.dep_form.specs.declared.node.Node.{Node}
use Rattle.dep_form.specs.declared.node.Node.TheVariants.{HeapArg, HeapResult}
use Rattle.dep_form.specs.declared.system.System.{System}
use Rattle.dep_form.specs.Constraints.{IsRoot}
use Rattle.worklists.proofs.Growing.{FromBelow}
use Rattle.edge_tables.specs.Rows.{IsEdgeBetween}
use Rattle.edge_tables.specs.declared.scene.Scene.{Scene}

module _ (first : ℕ) (row : List Node) where
  -- from a location after a call of the root to the same before a call
  abbrev pub IsPairEdge : ℕ → LocId → ℕ → Edge → Type 0
  IsPairEdge k n j x = IsEdgeBetween first row (HeapResult k n) first row (HeapArg j n) Thin x

  abbrev pub IsAgainEdge : ℕ → Node → Edge → Type 0
  IsAgainEdge calls node x = (k : ℕ) × (n : LocId) × (node ≡ HeapResult k n) × FromBelow (IsPairEdge k n) calls x

-- the root's calls are all of those before which its nodes have locations
abbrev pub AgainFits : Scene → MethodId → List Node → Type 0
AgainFits x m nodes = IsRoot x.system.now m → (j : ℕ) (n : LocId) → Contains nodes (HeapArg j n) → j < length x.entries.now

abbrev pub AgainFlow : System → MethodId → Node → Node → Label → Type 0
AgainFlow s m k j l = (a : ℕ) × (b : ℕ) × (n : LocId) × IsRoot s m × (k ≡ HeapResult a n) × (j ≡ HeapArg b n) × (l ≡ Thin)

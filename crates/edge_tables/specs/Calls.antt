-- What goes into the methods that are called, and what comes back.
use Rattle.std.specs.Prelude.{◌≡◌, ◌⊎◌, ℕ, true, List, Contains}
use Rattle.std.specs.Global.{Vec}
use Rattle.slicer_ids.specs.declared.ids.CallId.{CallId}
use Rattle.slicer_ids.specs.declared.ids.LocId.{LocId}
use Rattle.slicer_ids.specs.declared.ids.MethodId.{MethodId}
use Rattle.dep_form.specs.declared.node.Edge.{Edge}
use Rattle.dep_form.specs.declared.node.Label.{Label}
use Rattle.dep_form.specs.declared.node.Label.TheVariants.{Call, Return as BackFrom}
use Rattle.dep_form.specs.declared.node.Node.{Node}
use Rattle.dep_form.specs.declared.node.Node.TheVariants.{Argument, Exception, Formal, HeapArg, HeapIn, HeapOut, HeapResult, Result, Return, Thrown}
use Rattle.dep_form.specs.declared.system.System.{System}
use Rattle.dep_form.specs.Nodes.{is_exit, is_formal}
use Rattle.fact_form.specs.EdgeNumbers.{IsCallNumber}
use Rattle.worklists.specs.Growth.{FromOne}
use Rattle.edge_tables.specs.Rows.{IsEdgeBetween, IsRow}
use Rattle.edge_tables.specs.declared.links.Link.{Link}

-- what the one node of a call has goes into the formal
abbrev pub GoesIn : ℕ → Node → Node → Type 0
GoesIn pc k j = ((i : ℕ) × (k ≡ Argument pc i) × (j ≡ Formal i)) ⊎ ((n : LocId) × (k ≡ HeapArg pc n) × (j ≡ HeapIn n))

-- what the exit has comes back to the one node of a call
abbrev pub ComesBack : ℕ → Node → Node → Type 0
ComesBack pc k j =
    ((k ≡ Return) × (j ≡ Result pc)) ⊎ (((k ≡ Thrown) × (j ≡ Exception pc)) ⊎ ((n : LocId) × (k ≡ HeapOut n) × (j ≡ HeapResult pc n)))

module _ (from : ℕ) (xs : List Node) (to : ℕ) (ys : List Node) (link : Link) where
  abbrev pub IsFormalEdge : Node → Edge → Type 0
  IsFormalEdge j x = (k : Node) × GoesIn link.pc k j × IsEdgeBetween from xs k to ys j (Call link.number) x

  abbrev pub IsExitEdge : Node → Edge → Type 0
  IsExitEdge k x = (j : Node) × ComesBack link.pc k j × IsEdgeBetween from xs k to ys j (BackFrom link.number) x

  -- into any formal, from any exit
  abbrev pub IsIntoEdge : Edge → Type 0
  IsIntoEdge x = (j : Node) × Contains ys j × (is_formal j ≡ true) × IsFormalEdge j x

  abbrev pub IsBackEdge : Edge → Type 0
  IsBackEdge x = (k : Node) × Contains xs k × (is_exit k ≡ true) × IsExitEdge k x

module _ (rows : List (Vec Node)) (firsts : List ℕ) (to : ℕ) (ys : List Node) where
  -- the edges of one call, into the row of the method called, and into that of the one that calls
  abbrev pub IsIntoLinkEdge : Link → Edge → Type 0
  IsIntoLinkEdge link x = (from : ℕ) × (xs : List Node) × IsRow rows firsts link.caller from xs × IsIntoEdge from xs to ys link x

  abbrev pub IsBackLinkEdge : Link → Edge → Type 0
  IsBackLinkEdge link x = (from : ℕ) × (xs : List Node) × IsRow rows firsts link.target from xs × IsBackEdge from xs to ys link x

module _ (s : System) (entries : List MethodId) where
  -- an argument, or a location, goes from the one method into the other by a call
  abbrev pub IntoFlow : MethodId → Node → MethodId → Node → Label → Type 0
  IntoFlow a k m j l = (c : CallId) × (pc : ℕ) × IsCallNumber s entries c a pc m × GoesIn pc k j × (l ≡ Call c)

  -- an answer, an exception or a location comes back
  abbrev pub BackFlow : MethodId → Node → MethodId → Node → Label → Type 0
  BackFlow a k m j l = (c : CallId) × (pc : ℕ) × IsCallNumber s entries c m pc a × ComesBack pc k j × (l ≡ BackFrom c)

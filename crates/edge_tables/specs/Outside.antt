-- What calls that go outside pass on.
use Rattle.std.specs.Prelude.{◌≡◌, ◌⊎◌, ℕ, List, Option, Some, Contains, slice_get}
use Rattle.slicer_ids.specs.declared.ids.CallId.{CallId}
use Rattle.slicer_ids.specs.declared.ids.MethodId.{MethodId}
use Rattle.slicer_ids.specs.declared.ids.SiteId.{SiteId}
use Rattle.slicer_ids.specs.declared.ids.Statement.{Statement}
use Rattle.dep_form.specs.declared.call_site.CallSite.{CallSite}
use Rattle.dep_form.specs.declared.node.Edge.{Edge}
use Rattle.dep_form.specs.declared.node.Label.{Label}
use Rattle.dep_form.specs.declared.node.Label.TheVariants.{Thin}
use Rattle.dep_form.specs.declared.node.Node.{Node}
use Rattle.dep_form.specs.declared.node.Node.TheVariants.{Argument, Own, Result}
use Rattle.dep_form.specs.declared.rules.OutsideRule.{OutsideRule}
use Rattle.dep_form.specs.declared.system.System.{System}
use Rattle.dep_form.specs.Constraints.{SystemHolds}
use Rattle.dep_form.specs.PointsTo.{OutsideAt}
use Rattle.method_facts.specs.Calls.{IsCallAt}
use Rattle.program_form.specs.Nodes.{at}
use Rattle.program_form.specs.Systems.{IsCallOf}
use Rattle.edge_tables.specs.Rows.{IsEdgeBetween}

-- the call goes outside
abbrev pub IsGone : System → CallId → Type 0
IsGone s c = (o : Option SiteId) × SystemHolds s (OutsideAt c o)

module _ (first : ℕ) (row : List Node) where
  -- from an argument that is written to the call
  abbrev pub IsPassedEdge : List ℕ → ℕ → ℕ → Edge → Type 0
  IsPassedEdge written pc i x = Contains written i × IsEdgeBetween first row (Argument pc i) first row (Own pc) Thin x

  abbrev pub IsArgumentEdge : List ℕ → ℕ → ℕ → Edge → Type 0
  IsArgumentEdge written pc i x = IsEdgeBetween first row (Argument pc i) first row (Result pc) Thin x ⊎ IsPassedEdge written pc i x

  -- .. of a call that goes outside
  abbrev pub IsCallEdge : System → CallId → ℕ → ℕ → Edge → Type 0
  IsCallEdge s c pc i x = IsGone s c × (r : OutsideRule) × (slice_get s.outside_rules c.0 ≡ Some r) × IsArgumentEdge r.written pc i x

  abbrev pub IsStatementEdge : System → Statement → ℕ → Edge → Type 0
  IsStatementEdge s t i x = (c : CallId) × IsCallAt s.calls t c × IsCallEdge s c t.pc i x

  -- .. from a node, where it is an argument
  abbrev pub IsOutsideEdge : System → MethodId → Node → Edge → Type 0
  IsOutsideEdge s m k x = (pc : ℕ) × (i : ℕ) × (k ≡ Argument pc i) × IsStatementEdge s (record { method = m; pc = pc }) i x

-- an argument of a call that goes outside flows to what the call answers, and a written one to the call
abbrev pub OutsideFlow : System → MethodId → Node → Node → Label → Type 0
OutsideFlow s m k j l =
    (pc : ℕ) × (i : ℕ) × (c : CallId) × (site : CallSite) × IsCallOf s (at m pc) c site × IsGone s c × (k ≡ Argument pc i) × (l ≡ Thin)
    × ((j ≡ Result pc) ⊎ ((r : OutsideRule) × (slice_get s.outside_rules c.0 ≡ Some r) × Contains r.written i × (j ≡ Own pc)))

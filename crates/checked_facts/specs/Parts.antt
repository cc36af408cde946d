-- When parts name what is there.
use Rattle.std.specs.Prelude.{◌<◌, ℕ, List, All}
use Rattle.slicer_ids.specs.declared.ids.ClassId.{ClassId}
use Rattle.slicer_ids.specs.declared.ids.NodeId.{NodeId}
use Rattle.slicer_ids.specs.declared.ids.SiteId.{SiteId}
use Rattle.slicer_ids.specs.declared.ids.Statement.{Statement}
use Rattle.dep_form.specs.declared.access.Access.{Access}
use Rattle.dep_form.specs.declared.texts.MethodText.{MethodText}
use Rattle.dep_form.specs.declared.texts.SiteName.{SiteName}
use Rattle.dep_form.specs.WithinFacts.{IfOfMethod, IsOfMethod, IsOfSites}

abbrev pub IsOfClass : ℕ → MethodText → Type 0
IsOfClass classes t = t.class.0 < classes

abbrev pub IsOfNodes : ℕ → NodeId → Type 0
IsOfNodes nodes n = n.0 < nodes

abbrev pub IsPlaced : ℕ → SiteName → Type 0
IsPlaced methods x = IfOfMethod methods x.place

abbrev pub IsLineWithin : ℕ → ℕ → ClassId × ℕ × List Statement → Type 0
IsLineWithin classes methods x = (x.0.0 < classes) × All (IsOfMethod methods) x.2

abbrev pub IsAccessWithin : ℕ → ℕ → ℕ → Statement × Access → Type 0
IsAccessWithin nodes methods sites x = IsOfMethod methods x.0 × All (IsOfNodes nodes) x.1.object × All (IsOfSites sites) x.1.sites

abbrev pub IsValueWithin : ℕ → ℕ → Statement × List SiteId → Type 0
IsValueWithin methods sites x = IsOfMethod methods x.0 × All (IsOfSites sites) x.1

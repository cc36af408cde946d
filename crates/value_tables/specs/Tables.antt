-- The values of statements, one after another.
use Rattle.std.specs.Prelude.{◌≡◌, ◌<◌, ◌++◌, ◌∷◌, [], ℕ, List, Contains, length, slice_get, Some}
use Rattle.slicer_ids.specs.Order.{SiteBefore}
use Rattle.slicer_ids.specs.Sets.{IsOrderedListOf}
use Rattle.slicer_ids.specs.declared.ids.MethodId.{MethodId}
use Rattle.slicer_ids.specs.declared.ids.SiteId.{SiteId}
use Rattle.slicer_ids.specs.declared.ids.Statement.{Statement}
use Rattle.class_form.specs.declared.body.Body.{Body}
use Rattle.class_form.specs.declared.body.Point.{Point}
use Rattle.dep_form.specs.Constraints.{SystemHolds}
use Rattle.dep_form.specs.PointsTo.{Reached}
use Rattle.dep_form.specs.Keys.{key_of_value}
use Rattle.dep_form.specs.Orders.{RiseBy, statement_cmp}
use Rattle.dep_form.specs.declared.system.System.{System}
use Rattle.worklists.specs.Growth.{FromOne}

-- after the old list stand, in order, statements of which In holds, each with all sites of which Has holds; each that has some
pub record AddsValues (old new : List (Statement × List SiteId)) (In : Statement → Type 0) (Has : Statement → SiteId → Type 0) : Type 0 where
  pub more : List (Statement × List SiteId)
  pub is : new ≡ old ++ more
  pub order : RiseBy statement_cmp key_of_value more
  pub each : (t : Statement) (hs : List SiteId) → Contains more (t, hs) → In t × IsOrderedListOf SiteBefore hs (Has t)
  pub whole : (t : Statement) (h : SiteId) → In t → Has t h → (hs : List SiteId) × Contains more (t, hs)

-- the statement at a point of a method
abbrev pub IsAtPoint : MethodId → Point → Statement → Type 0
IsAtPoint m q t = t ≡ record { method = m; pc = q.pc }

-- a statement of a body, of one whose method may run
abbrev pub IsInBody : Body → Statement → Type 0
IsInBody b = FromOne (IsAtPoint b.method) b.shape.points

abbrev pub RunsInBody : System → Body → Statement → Type 0
RunsInBody s b t = SystemHolds s (Reached b.method) × IsInBody b t

-- Accesses of statements, one after another.
use Rattle.std.specs.Prelude.{◌≡◌, ◌++◌, ℕ, List, Option, Some, All, Contains, slice_get}
use Rattle.slicer_ids.specs.Order.{SiteBefore}
use Rattle.slicer_ids.specs.Sets.{IsOrderedListOf}
use Rattle.slicer_ids.specs.declared.ids.MethodId.{MethodId}
use Rattle.slicer_ids.specs.declared.ids.NodeId.{NodeId}
use Rattle.slicer_ids.specs.declared.ids.SiteId.{SiteId}
use Rattle.slicer_ids.specs.declared.ids.Statement.{Statement}
use Rattle.class_form.specs.ClassRules.{IsClassFile}
use Rattle.class_form.specs.declared.body.Body.{Body}
use Rattle.class_form.specs.declared.body.Def.{Def}
use Rattle.class_form.specs.declared.body.Point.{Point}
use Rattle.dep_form.specs.declared.access.Access.{Access}
use Rattle.dep_form.specs.declared.input.MethodInput.{MethodInput}
use Rattle.dep_form.specs.declared.node.Node.{Node}
use Rattle.dep_form.specs.declared.node.Node.TheVariants.{Own}
use Rattle.dep_form.specs.declared.system.System.{System}
use Rattle.dep_form.specs.Constraints.{SystemHolds}
use Rattle.dep_form.specs.Inputs.{IsInputOf}
use Rattle.dep_form.specs.Keys.{key_of_access}
use Rattle.dep_form.specs.Orders.{RiseBy, statement_cmp}
use Rattle.dep_form.specs.PointsTo.{Reached}
use Rattle.dep_form.specs.WithinFacts.{NodeBefore}
use Rattle.program_form.specs.Programs.{Program}
use Rattle.program_form.specs.Statements.{OperandIs}
use Rattle.program_form.specs.Values.{IsAccessOpcode}
use Rattle.fact_form.specs.EdgeNumbers.{IsDefinitionNumber}
use Rattle.fact_form.specs.Handed.{IsProgramWith}
use Rattle.fact_form.specs.ValueNumbers.{OperandSite}
use Rattle.input_tables.specs.Uses.{IsNodeIn}
use Rattle.worklists.specs.Growth.{FromOne}
use Rattle.value_tables.specs.Values.{OperandHas}
use Rattle.access_tables.specs.Objects.{IsObjectStart}
use Rattle.access_tables.specs.declared.scene.Scene.{Scene}

-- the access of the statement at a point, by what its method has
pub record IsAccessAt (x : Scene) (t : Point) (a : Access) : Type 0 where
  pub objects : IsOrderedListOf NodeBefore a.object (IsObjectStart x t)
  pub sites : IsOrderedListOf SiteBefore a.sites (OperandHas x.method t 0)

-- after the old list stand, in order, the statements of which In holds, each with what Is holds of
pub record AddsAccesses (old new : List (Statement × Access)) (In : Statement → Type 0) (Is : Statement → Access → Type 0) : Type 0 where
  pub more : List (Statement × Access)
  pub is : new ≡ old ++ more
  pub order : RiseBy statement_cmp key_of_access more
  pub each : (t : Statement) (a : Access) → Contains more (t, a) → In t × Is t a
  pub whole : (t : Statement) → In t → (a : Access) × Contains more (t, a)

-- the access of a statement, with nodes of a row that are numbered from `first` on
abbrev pub HasAccess : Program → System → ℕ → List Node → Statement → Access → Type 0
HasAccess p s first row t a =
    IsOrderedListOf NodeBefore a.object (λ n. (d : Def) × (k : Node) × OperandIs p t 0 d × IsDefinitionNumber p t.method d k × IsNodeIn first row n k)
    × IsOrderedListOf SiteBefore a.sites (OperandSite p s t 0)

-- .. of the input of its method
abbrev pub HasAccessIn : Program → System → List (Option MethodInput) → Statement → Access → Type 0
HasAccessIn p s inputs t a = (i : MethodInput) × IsInputOf inputs t.method i × HasAccess p s i.first.0 i.nodes t a

-- the statement at a point of a method, where it is an access; such a statement of a body; of one whose method may run
abbrev pub IsAccessPoint : MethodId → Point → Statement → Type 0
IsAccessPoint m q t = IsAccessOpcode q.op × (t ≡ record { method = m; pc = q.pc })

abbrev pub IsAccessInBody : Body → Statement → Type 0
IsAccessInBody b = FromOne (IsAccessPoint b.method) b.shape.points

abbrev pub RunsInBody : System → Body → Statement → Type 0
RunsInBody s b t = SystemHolds s (Reached b.method) × IsAccessInBody b t

-- a program of class files with this system has the body
abbrev pub HasBody : Program → System → Body → Type 0
HasBody p s b = IsProgramWith p.classes p.bodies s p × All IsClassFile p.classes × Contains p.bodies b

-- the row has the nodes of all statements of the body
abbrev pub HasOwnNodes : List Node → Body → Type 0
HasOwnNodes row b = (q : Point) → Contains b.shape.points q → Contains row (Own q.pc)

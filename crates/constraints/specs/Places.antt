-- Where the statements of a program stand, in order.
use Rattle.std.specs.Prelude.{◌≡◌, List, All, AllPairs, Contains, map}
use Rattle.slicer_ids.specs.Sets.{IsOrderedListOf}
use Rattle.slicer_ids.specs.Order.{StatementBefore}
use Rattle.slicer_ids.specs.declared.ids.Statement.{Statement}
use Rattle.worklists.specs.Growth.{FromOne}
use Rattle.class_form.specs.declared.class_file.ClassFile.{ClassFile}
use Rattle.class_form.specs.declared.body.Body.{Body}
use Rattle.class_form.specs.declared.body.Point.{Point}
use Rattle.program_form.specs.Programs.{Program}
use Rattle.program_form.specs.Statements.{HasOpcode}
use Rattle.signature_tables.specs.Programs.{IsOfClasses}
use Rattle.signature_tables.specs.Statements.{statement, IsInstrPc}
use Rattle.variable_tables.specs.Statements.{IsFollowed}
use Rattle.constraint_rules.specs.Settings.{IsPlaced, place_of}
use Rattle.constraint_rules.specs.declared.tables.Reachable.{Reachable}

-- the statement of a point of the body, where an instruction stands
abbrev pub IsPlaceAt : Body → Point → Statement → Type 0
IsPlaceAt b q t = (t ≡ statement b q.pc) × IsInstrPc b.instrs q.pc

-- .. of the body
abbrev pub IsPlaceIn : Body → Statement → Type 0
IsPlaceIn b = FromOne (IsPlaceAt b) b.shape.points

-- an instruction at a point of one of the bodies
pub record IsThere (classes : List ClassFile) (bodies : List Body) (x : Reachable) : Type 0 where
  pub body : Contains bodies x.body.now
  pub followed : IsFollowed x.body.now
  pub point : Contains x.body.now.shape.points x.point.now
  pub placed : (p : Program) → IsOfClasses classes p → p.bodies ≡ bodies → IsPlaced p x

abbrev pub IsStatement : Program → Statement → Type 0
IsStatement p t = HasOpcode p t (λ op. Unit {0})

-- the instructions of all statements, in order
pub record ArePlaces (classes : List ClassFile) (bodies : List Body) (xs : List Reachable) : Type 0 where
  pub each : All (IsThere classes bodies) xs
  pub listed : (p : Program) → IsOfClasses classes p → p.bodies ≡ bodies → IsOrderedListOf StatementBefore (map place_of xs) (IsStatement p)

abbrev pub PlaceBefore : Reachable → Reachable → Type 0
PlaceBefore x y = StatementBefore (place_of x) (place_of y)

abbrev pub CanBeFollowed : Reachable → Type 0
CanBeFollowed x = IsFollowed x.body.now × Contains x.body.now.shape.points x.point.now

-- what is asked of the instructions that are gone through
pub record AreInOrder (xs : List Reachable) : Type 0 where
  pub each : All CanBeFollowed xs
  pub order : AllPairs PlaceBefore xs

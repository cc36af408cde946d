-- The locations of a program by the numbers of a system.
use Rattle.std.specs.Prelude.{◌≡◌, Contains}
use Rattle.slicer_ids.specs.declared.ids.SiteId.{SiteId}
use Rattle.slicer_ids.specs.declared.ids.FieldId.{FieldId}
use Rattle.dep_form.specs.declared.rules.Var.{Var}
use Rattle.dep_form.specs.declared.rules.Touch.{Touch}
use Rattle.dep_form.specs.declared.rules.Spot.TheVariants.{Static as StaticSpot}
use Rattle.dep_form.specs.declared.system.System.{System}
use Rattle.dep_form.specs.declared.effects.Location.{Location as SystemLocation}
use Rattle.dep_form.specs.declared.effects.Location.TheVariants.{Cell, Static}
use Rattle.program_form.specs.Programs.{Program}
use Rattle.program_form.specs.Sites.{Site}
use Rattle.program_form.specs.Facts.{Variable, FieldName}
use Rattle.program_form.specs.Effects.{Location, CellOf, StaticOf}
use Rattle.program_form.specs.Systems.{SiteNumber, FieldNumber, VariableNumber}

-- a location of the program, and the same by numbers
pub data LocationNumber (p : Program) (s : System) : Location → SystemLocation → Type 0 where
  cell_number : {b : Site} {f : FieldName} {n : SiteId} {g : FieldId} → SiteNumber p n b → FieldNumber s f g → LocationNumber p s (CellOf b f) (Cell n g)
  static_number : {v : Variable} {x : Var} → VariableNumber p s v x → LocationNumber p s (StaticOf v) (Static x)

-- each touch of a static variable is of one that the program names
abbrev pub AreStaticsNamed : Program → System → Type 0
AreStaticsNamed p s = (t : Touch) (x : Var) → Contains s.touches t → t.spot ≡ StaticSpot x → (v : Variable) × VariableNumber p s v x

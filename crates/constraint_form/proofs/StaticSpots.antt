-- A spot of a static variable is of one that the statement names.
use Rattle.std.proofs.Common.{Bool, List}
use Rattle.slicer_ids.specs.declared.ids.Statement.{Statement}
use Rattle.dep_form.specs.declared.rules.Var.{Var}
use Rattle.dep_form.specs.declared.rules.Spot.TheVariants.{Static}
use Rattle.dep_form.specs.declared.system.System.{System}
use Rattle.program_form.specs.Programs.{Program}
use Rattle.program_form.specs.Facts.{Variable, IsStaticVariable}
use Rattle.program_form.specs.Systems.{VariableNumber}
use Rattle.constraint_form.specs.Variables.{Meaning}
use Rattle.constraint_form.specs.Touched.{IsTouch, writes_static, reads_static}

pub static_spot : (p : Program) (s : System) (names : List Meaning) (t : Statement) (write : Bool) (x : Var) → IsTouch p s names t write (Static x) →
    (v : Variable) × VariableNumber p s v x × IsStaticVariable p t v
static_spot p s names t write x (writes_static {v} o is vn) = (v, vn, is)
static_spot p s names t write x (reads_static {v} o is vn) = (v, vn, is)

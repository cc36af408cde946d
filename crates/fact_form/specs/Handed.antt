-- The program that classes, bodies and a system of constraints are those of.
use Rattle.std.specs.Prelude.{◌≡◌, List}
use Rattle.class_form.specs.declared.class_file.ClassFile.{ClassFile}
use Rattle.class_form.specs.declared.body.Body.{Body}
use Rattle.dep_form.specs.declared.system.System.{System}
use Rattle.program_form.specs.Programs.{Program}
use Rattle.program_code.specs.Codes.{IsProgramOfCode}
use Rattle.constraint_form.specs.Asked.{IsReadProgram}
use Rattle.constraint_form.specs.ConstraintSystems.{IsConstraintSystem}

pub record IsProgramWith (classes : List ClassFile) (bodies : List Body) (s : System) (p : Program) : Type 0 where
  pub classes_are : p.classes ≡ classes
  pub bodies_are : p.bodies ≡ bodies
  pub asked : IsReadProgram p
  pub coded : IsProgramOfCode p
  pub constraints : IsConstraintSystem p s

-- Classes whose code has bodies, and these bodies.
use Rattle.std.specs.Prelude.{◌≡◌, List}
use Rattle.class_form.specs.ClassRules.{IsClassFile}
use Rattle.class_form.specs.Numbers.{AreMethods, AreFields}
use Rattle.class_form.specs.declared.class_file.ClassFile.{ClassFile}
use Rattle.class_form.specs.declared.body.Body.{Body}
use Rattle.program_form.specs.Programs.{Program}
use Rattle.program_code.specs.Codes.{IsProgramOfCode}
use Rattle.body_rules.specs.Methods.{HaveBodies}

-- the class file keeps the rules of class files, and the code of all of its methods has bodies
abbrev pub IsSoundClass : ClassFile → Type 0
IsSoundClass c = IsClassFile c × HaveBodies c

-- with the classes, their methods and their fields, the bodies make a program; where it is entered is left open
abbrev pub AreBodiesOf : List ClassFile → List Body → Type 0
AreBodiesOf classes bodies =
    (p : Program) → p.classes ≡ classes → AreMethods p.classes p.methods → AreFields p.classes p.fields → p.bodies ≡ bodies → IsProgramOfCode p

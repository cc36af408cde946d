-- What is asked of classes, bodies and entries, and what is answered of them.
use Rattle.std.specs.Prelude.{◌≡◌, ◌⊎◌, ◌<◌, ◌≤◌, ◌^◌, List, Contains, length}
use Rattle.slicer_ids.specs.declared.limits.LimitKind.TheVariants.{Methods}
use Rattle.class_form.specs.declared.class_file.ClassFile.{ClassFile}
use Rattle.class_form.specs.declared.body.Body.{Body}
use Rattle.dep_form.specs.declared.rules.Entry.{Entry}
use Rattle.dep_form.specs.declared.rules.TooMany.{TooMany}
use Rattle.dep_form.specs.declared.rules.TooMany.TheVariants.{NoMemory, Limit}
use Rattle.dep_form.specs.declared.system.System.{System}
use Rattle.program_form.specs.Programs.{Program}
use Rattle.constraint_form.specs.ConstraintSystems.{IsConstraintSystem}
use Rattle.signature_tables.specs.Programs.{IsOfClasses}
use Rattle.site_tables.specs.Tables.{IsTooMany as AreTooManySites}

-- the program has these classes, bodies and entries
pub record IsGiven (classes : List ClassFile) (bodies : List Body) (entries : List Entry) (p : Program) : Type 0 where
  pub of : IsOfClasses classes p
  pub bodies_are : p.bodies ≡ bodies
  pub entries_are : p.entries ≡ entries
  -- an entry is a method of the program
  pub entered : (e : Entry) → Contains p.entries e → e.method.0 < length p.methods

-- some program does
abbrev pub HasProgram : List ClassFile → List Body → List Entry → Type 0
HasProgram classes bodies entries = (p : Program) × IsGiven classes bodies entries p

-- there are neither too many methods nor too many sites
abbrev pub AreFew : System → Type 0
AreFew s = (length s.methods ≤ 2 ^ 16) × (length s.sites ≤ 2 ^ 20)

-- the system is that of the program
abbrev pub IsSystemFor : List ClassFile → List Body → List Entry → System → Type 0
IsSystemFor classes bodies entries s = (p : Program) → IsGiven classes bodies entries p → IsConstraintSystem p s

-- there are too many methods; or not too many, and too many sites
abbrev pub IsTooMany : List ClassFile → List Body → TooMany → Type 0
IsTooMany classes bodies NoMemory = Unit {0}
IsTooMany classes bodies (Limit kind n) =
    ((kind ≡ Methods) × (2 ^ 16 < n) × ((p : Program) → IsOfClasses classes p → n ≡ length p.methods))
    ⊎ (((p : Program) → IsOfClasses classes p → length p.methods ≤ 2 ^ 16) × AreTooManySites classes bodies (Limit kind n))

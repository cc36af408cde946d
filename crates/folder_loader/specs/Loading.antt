-- The program of a folder, by its parts.
use Rattle.std.specs.Prelude.{◌≡◌, ℕ, List, Option, All}
use Rattle.edge_io.specs.Files.{Files}
use Rattle.class_form.specs.ClassRules.{IsClassFile}
use Rattle.class_form.specs.declared.class_file.ClassFile.{ClassFile}
use Rattle.class_form.specs.declared.body.Body.{Body}
use Rattle.dep_form.specs.declared.rules.Entry.{Entry}
use Rattle.program_form.specs.Programs.{Program}
use Rattle.program_code.specs.Codes.{IsProgramOfCode}
use Rattle.call_graph.specs.Entries.{AreEntries}
use Rattle.acceptance.specs.Classes.{AreClasses}
use Rattle.acceptance.specs.Programs.{IsProgramOf}

-- the program has these classes, bodies and entries
pub record HasParts (classes : List ClassFile) (bodies : List Body) (entries : List Entry) (p : Program) : Type 0 where
  pub classes_are : p.classes ≡ classes
  pub bodies_are : p.bodies ≡ bodies
  pub entries_are : p.entries ≡ entries

-- its class files keep the rules, its bodies are those of their code, and its entries those of all classes or of the one of a name
pub record IsLoaded (main : Option (List ℕ)) (p : Program) : Type 0 where
  pub files : All IsClassFile p.classes
  pub code : IsProgramOfCode p
  pub entries : AreEntries p.classes main p.entries

-- it is that of the class files of a folder, all of which are sound
abbrev pub IsProgramIn : Files → List ℕ → Option (List ℕ) → Program → Type 0
IsProgramIn m folder main p = (files : List ClassFile) × AreClasses m folder files × IsProgramOf files main p

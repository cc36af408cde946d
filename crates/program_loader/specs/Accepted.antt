-- A program that is accepted, with its facts.
use Rattle.std.specs.Prelude.{◌≡◌, ℕ, List, Option}
use Rattle.class_form.specs.declared.class_file.ClassFile.{ClassFile}
use Rattle.dep_form.specs.declared.facts.Facts.{Facts}
use Rattle.program_form.specs.Programs.{Program}
use Rattle.program_form.specs.Graphs.{Numbering, AreFactsOf}
use Rattle.acceptance.specs.Programs.{IsAccepted}
use Rattle.folder_loader.specs.Loading.{IsLoaded}

-- the program has these classes, and is accepted; these are facts of it
pub record IsWhole (main : Option (List ℕ)) (classes : List ClassFile) (f : Facts) (p : Program) : Type 0 where
  pub classes_are : p.classes ≡ classes
  pub loaded : IsLoaded main p
  pub accepted : IsAccepted p
  pub numbers : Numbering
  pub facts : AreFactsOf p numbers f

-- Whether a folder is accepted, and the line with which it is refused. A line is here without its end.
use Rattle.std.specs.Prelude.{◌++◌, ℕ, List, Option, codes}
use Rattle.slicer_ids.specs.Escapes.{printed}
use Rattle.slicer_ids.specs.declared.limits.LimitKind.{LimitKind}
use Rattle.edge_io.specs.Files.{Files}
use Rattle.class_form.specs.Folders.{IsHierarchyOf}
use Rattle.class_form.specs.declared.class_file.ClassFile.{ClassFile}
use Rattle.folder_form.specs.Walks.{WalksFolder, TooMany, Found}
use Rattle.folder_form.specs.Reading.{ReadsAll, TooLong}
use Rattle.hierarchy.specs.Causes.{IsCause}
use Rattle.hierarchy.specs.declared.tree.TreeError.TheVariants.{Duplicate, Cycle}
use Rattle.program_form.specs.Programs.{Program}
use Rattle.call_graph.specs.Entries.{HasNoEntry}
use Rattle.refusal_lines.specs.Refusals.{limit_refusal}
use Rattle.acceptance.specs.Classes.{HasFiles, IsFirstRefused, AreClasses}
use Rattle.acceptance.specs.Programs.{IsProgramOf, IsAccepted, RefusesProgram}

-- the folder, with the entries of the class of a name where one is given, is accepted, and has this program
pub record Accepts (m : Files) (folder : List ℕ) (main : Option (List ℕ)) (p : Program) : Type 0 where
  pub files : List ClassFile
  pub found : AreClasses m folder files
  pub program : IsProgramOf files main p
  pub accepted : IsAccepted p

-- a limit is exceeded while the folder is walked or its class files are read; or else one of these is refused
pub data RefusesFiles (m : Files) (folder : List ℕ) : List ℕ → Type 0 where
  walk : {kind : LimitKind} {n : ℕ} → WalksFolder m folder (TooMany kind n) → RefusesFiles m folder (limit_refusal kind n)
  reading : {kind : LimitKind} {n : ℕ} {paths : List (List ℕ)} → WalksFolder m folder (Found paths) → ReadsAll m paths (TooLong kind n) →
      RefusesFiles m folder (limit_refusal kind n)
  file : {paths contents : List (List ℕ)} {line : List ℕ} → HasFiles m folder paths contents → IsFirstRefused folder paths contents line →
      RefusesFiles m folder line

-- class files together are refused: a name stands twice; or else a class is its own ancestor; or else there is no entry; or else their
-- program is refused
pub data RefusesClasses (files : List ClassFile) (main : Option (List ℕ)) : List ℕ → Type 0 where
  duplicate : {name : List ℕ} → IsCause files (Duplicate name) → RefusesClasses files main (codes "refused duplicate class " ++ printed name)
  cycle : {name : List ℕ} → IsCause files (Cycle name) → RefusesClasses files main (codes "refused cyclic class " ++ printed name)
  no_entry : {classes : List ClassFile} → IsHierarchyOf files classes → HasNoEntry classes main → RefusesClasses files main (codes "refused no entry method")
  program : {p : Program} {line : List ℕ} → IsProgramOf files main p → RefusesProgram p line → RefusesClasses files main line

-- the folder is refused with a line: its files, or else the classes that they spell
pub data IsRefusal (m : Files) (folder : List ℕ) (main : Option (List ℕ)) : List ℕ → Type 0 where
  of_files : {line : List ℕ} → RefusesFiles m folder line → IsRefusal m folder main line
  of_classes : {files : List ClassFile} {line : List ℕ} → AreClasses m folder files → RefusesClasses files main line → IsRefusal m folder main line

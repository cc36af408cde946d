-- The class files of a folder: what is found, and which file is refused first.
use Rattle.std.specs.Prelude.{◌≡◌, ℕ, List, [], ◌∷◌}
use Rattle.edge_io.specs.Files.{Files, inside}
use Rattle.folder_form.specs.Walks.{WalksFolder, Found}
use Rattle.folder_form.specs.Reading.{ReadsAll, Contents}
use Rattle.class_form.specs.declared.class_file.ClassFile.{ClassFile}
use Rattle.body_rules.specs.Methods.{IsSound}
use Rattle.body_rules.specs.Refused.{Refuses}

-- the walk of the folder finds class files at these paths, and they have these bytes
pub record HasFiles (m : Files) (folder : List ℕ) (paths contents : List (List ℕ)) : Type 0 where
  pub walk : WalksFolder m folder (Found paths)
  pub reading : ReadsAll m paths (Contents contents)

-- each file spells a class, and the code of all of its methods has bodies
pub data AreSound : List (List ℕ) → List ClassFile → Type 0 where
  none : AreSound [] []
  file : {bytes : List ℕ} {c : ClassFile} {contents : List (List ℕ)} {files : List ClassFile} → IsSound bytes c → AreSound contents files →
      AreSound (bytes ∷ contents) (c ∷ files)

-- the first file that is refused, after files that are sound; its line names it by its path below the folder
pub data IsFirstRefused (folder : List ℕ) : List (List ℕ) → List (List ℕ) → List ℕ → Type 0 where
  here : {path below bytes line : List ℕ} {paths contents : List (List ℕ)} → path ≡ inside folder below → Refuses below bytes line →
      IsFirstRefused folder (path ∷ paths) (bytes ∷ contents) line
  later : {path bytes line : List ℕ} {c : ClassFile} {paths contents : List (List ℕ)} → IsSound bytes c → IsFirstRefused folder paths contents line →
      IsFirstRefused folder (path ∷ paths) (bytes ∷ contents) line

-- the class files of a folder all of whose files are sound, in the order of the walk
abbrev pub AreClasses : Files → List ℕ → List ClassFile → Type 0
AreClasses m folder files = (paths : List (List ℕ)) × (contents : List (List ℕ)) × HasFiles m folder paths contents × AreSound contents files

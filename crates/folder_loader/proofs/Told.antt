-- What is said of a folder's files, where they are told.
use Rattle.std.proofs.Common.{◌≡◌, ℕ, List, Option, Some, None, Result, Ok, Err, refl, sym, subst, ◌∙◌, inl, inr}
use Rattle.std.specs.Prelude.{IfSome, IfOk, codes}
use Rattle.slicer_ids.specs.declared.limits.LimitKind.{LimitKind}
use Rattle.edge_io.specs.Files.{Files}
use Rattle.class_form.specs.Folders.{IsHierarchyOf}
use Rattle.class_form.specs.declared.class_file.ClassFile.{ClassFile}
use Rattle.folder_form.specs.Walks.{WalksFolder, Found}
use Rattle.folder_form.specs.Reading.{ReadsAll, Contents}
use Rattle.folder_reader.specs.Folders.{ExceedsLimit}
use Rattle.folder_reader.specs.declared.error.FolderError.{FolderError}
use Rattle.folder_reader.specs.declared.error.FolderError.TheVariants.{TooMany}
use Rattle.folder_reader.specs.declared.error.FolderError.TheVariants as unread
use Rattle.folder_reader.specs.declared.folder.FolderFiles.{FolderFiles}
use Rattle.hierarchy.specs.Causes.{IsCause}
use Rattle.hierarchy.specs.declared.tree.TreeError.{TreeError}
use Rattle.hierarchy.specs.declared.tree.TreeError.TheVariants.{NoMemory, Duplicate, Cycle}
use Rattle.program_form.specs.Programs.{Program}
use Rattle.call_graph.specs.Entries.{HasNoEntry}
use Rattle.refusal_lines.specs.Refusals.{limit_refusal}
use Rattle.acceptance.specs.Classes.{HasFiles, AreSound, AreClasses, IsFirstRefused}
use Rattle.acceptance.specs.Programs.{IsProgramOf}
use Rattle.acceptance.specs.Refusals.{RefusesFiles, walk, reading, file, RefusesClasses, duplicate, cycle, no_entry, IsRefusal, of_files, of_classes}
use Rattle.folder_loader.specs.Loading.{HasParts, IsLoaded, IsProgramIn}
use Rattle.folder_loader.specs.declared.error.LoadError.{LoadError}
use Rattle.folder_loader.specs.declared.parts.Loaded.{Loaded}
use Rattle.folder_loader.specs.Lines.{IsLimitLine, IsTreeLine}
use Rattle.folder_loader.specs.Trying.{RefusesSound}

pub files_told : (files : Option Files) (folder : List ℕ) (paths contents : List (List ℕ)) → IfSome files (λ m. WalksFolder m folder (Found paths))
    → IfSome files (λ m. ReadsAll m paths (Contents contents)) → IfSome files (λ m. HasFiles m folder paths contents)
files_told None folder paths contents w r = tt
files_told (Some m) folder paths contents w r = record { walk = w; reading = r }

limit_said : (m : Files) (folder : List ℕ) (kind : LimitKind) (count : ℕ) → ExceedsLimit m folder kind count → RefusesFiles m folder (limit_refusal kind count)
limit_said m folder kind count (inl w) = walk w
limit_said m folder kind count (inr (paths, w, r)) = reading w r

limit_of : (files : Option Files) (folder : List ℕ) (kind : LimitKind) (count : ℕ) (line : List ℕ) → line ≡ limit_refusal kind count
    → IfSome files (λ m. ExceedsLimit m folder kind count) → IfSome files (λ m. RefusesFiles m folder line)
limit_of None folder kind count line e h = tt
limit_of (Some m) folder kind count line e h = subst (RefusesFiles m folder) (sym e) (limit_said m folder kind count h)

pub limit_told : (files : Option Files) (folder : List ℕ) (error : FolderError) (line : List ℕ) → IsLimitLine error line
    → ((kind : LimitKind) (count : ℕ) → ◌≡◌ {A = Result FolderFiles FolderError} (Err error) (Err (TooMany kind count)) → IfSome files (λ m. ExceedsLimit m folder kind count))
    → IfSome files (λ m. RefusesFiles m folder line)
limit_told files folder unread.NoMemory line none limit = absurd none
limit_told files folder unread.Host line none limit = absurd none
limit_told files folder (TooMany kind count) line e limit = limit_of files folder kind count line e (limit kind count refl)

tree_said : (files : List ClassFile) (main : Option (List ℕ)) (error : TreeError) (line : List ℕ) → IsCause files error → IsTreeLine error line → RefusesClasses files main line
tree_said files main NoMemory line cause none = absurd none
tree_said files main (Duplicate name) line cause e = subst (RefusesClasses files main) (sym e) (duplicate cause)
tree_said files main (Cycle name) line cause e = subst (RefusesClasses files main) (sym e) (cycle cause)

module _ (folder : List ℕ) (main : Option (List ℕ)) where
  pub files_refused : (files : Option Files) (line : List ℕ) → IfSome files (λ m. RefusesFiles m folder line) → IfSome files (λ m. IsRefusal m folder main line)
  files_refused None line h = tt
  files_refused (Some m) line h = of_files h

  sound_said : (m : Files) (paths contents : List (List ℕ)) (line : List ℕ) → HasFiles m folder paths contents → RefusesSound folder paths contents line → IsRefusal m folder main line
  sound_said m paths contents line has (inl first) = of_files (file has first)
  sound_said m paths contents line has (inr (files, sound, error, cause, said)) = of_classes {files = files} (paths, contents, has, sound) (tree_said files main error line cause said)

  pub sound_refused : (files : Option Files) (paths contents : List (List ℕ)) (line : List ℕ) → IfSome files (λ m. HasFiles m folder paths contents)
      → RefusesSound folder paths contents line → IfSome files (λ m. IsRefusal m folder main line)
  sound_refused None paths contents line has h = tt
  sound_refused (Some m) paths contents line has h = sound_said m paths contents line has h

  pub entry_refused : (files : Option Files) (paths contents : List (List ℕ)) (classes h : List ClassFile) (line : List ℕ) → IfSome files (λ m. HasFiles m folder paths contents)
      → AreSound contents classes → IsHierarchyOf classes h → HasNoEntry h main → line ≡ codes "refused no entry method" → IfSome files (λ m. IsRefusal m folder main line)
  entry_refused None paths contents classes h line has sound tree none e = tt
  entry_refused (Some m) paths contents classes h line has sound tree none e =
      of_classes {files = classes} (paths, contents, has, sound) (subst (RefusesClasses classes main) (sym e) (no_entry tree none))

  program_of : (p : Program) (classes h : List ClassFile) → IsHierarchyOf classes h → p.classes ≡ h → IsLoaded main p → IsProgramOf classes main p
  program_of p classes h tree e loaded = record { classes = subst (IsHierarchyOf classes) (sym e) tree; code = loaded.code; entries = loaded.entries }

  pub program_told : (files : Option Files) (paths contents : List (List ℕ)) (classes h : List ClassFile) (p : Program) → IfSome files (λ m. HasFiles m folder paths contents)
      → AreSound contents classes → IsHierarchyOf classes h → p.classes ≡ h → IsLoaded main p → IfSome files (λ m. IsProgramIn m folder main p)
  program_told None paths contents classes h p has sound tree e loaded = tt
  program_told (Some m) paths contents classes h p has sound tree e loaded =
      (classes, (paths, contents, has, sound), program_of p classes h tree e loaded)

  -- .. of what is answered
  pub all_told : (files : Option Files) (paths contents : List (List ℕ)) (classes h : List ClassFile) → IfSome files (λ m. HasFiles m folder paths contents) → AreSound contents classes
      → IsHierarchyOf classes h → (r : Result Loaded LoadError) → IfOk r (λ l. l.hierarchy ≡ h)
      → IfOk r (λ l. (p : Program) × HasParts l.hierarchy l.bodies.items l.entries p × IsLoaded main p)
      → IfOk r (λ l. (p : Program) × HasParts l.hierarchy l.bodies.items l.entries p × IsLoaded main p × IfSome files (λ m. IsProgramIn m folder main p))
  all_told files paths contents classes h has sound tree (Ok l) same (p, parts, loaded) =
      (p, parts, loaded, program_told files paths contents classes h p has sound tree (parts.classes_are ∙ same) loaded)
  all_told files paths contents classes h has sound tree (Err e) same program = program

-- the hierarchy of the classes of sound files
pub ok_tree : (contents : List (List ℕ)) (files : List ClassFile) (r : Result (List ClassFile) LoadError) → AreSound contents files → IfOk r (λ h. IsHierarchyOf files h)
    → IfOk r (λ h. (classes : List ClassFile) × AreSound contents classes × IsHierarchyOf classes h)
ok_tree contents files (Ok h) sound tree = (files, sound, tree)
ok_tree contents files (Err e) sound tree = tree

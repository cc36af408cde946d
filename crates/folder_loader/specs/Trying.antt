-- What is tried of class files before their program. Private: no public clause cites this.
use Rattle.std.specs.Prelude.{◌⊎◌, ℕ, List}
use Rattle.class_form.specs.declared.class_file.ClassFile.{ClassFile}
use Rattle.hierarchy.specs.Causes.{IsCause}
use Rattle.hierarchy.specs.declared.tree.TreeError.{TreeError}
use Rattle.acceptance.specs.Classes.{AreSound, IsFirstRefused}
use Rattle.folder_loader.specs.Lines.{IsTreeLine}

-- the first file that isn't sound is refused with the line; or all are, and their classes are no hierarchy
abbrev pub RefusesSound : List ℕ → List (List ℕ) → List (List ℕ) → List ℕ → Type 0
RefusesSound folder paths contents line =
    IsFirstRefused folder paths contents line
    ⊎ ((files : List ClassFile) × AreSound contents files × (error : TreeError) × IsCause files error × IsTreeLine error line)

-- What is said of class files that weren't read, or are no hierarchy. Want of memory, and a fault of the host, say nothing.
use Rattle.std.specs.Prelude.{◌≡◌, ◌++◌, List, ℕ, codes}
use Rattle.slicer_ids.specs.Escapes.{printed}
use Rattle.folder_reader.specs.declared.error.FolderError.{FolderError}
use Rattle.folder_reader.specs.declared.error.FolderError.TheVariants as unread
use Rattle.refusal_lines.specs.Refusals.{limit_refusal}
use Rattle.hierarchy.specs.declared.tree.TreeError.{TreeError}
use Rattle.hierarchy.specs.declared.tree.TreeError.TheVariants.{NoMemory, Duplicate, Cycle}

abbrev pub IsLimitLine : FolderError → List ℕ → Type 0
IsLimitLine unread.NoMemory line = ⊥
IsLimitLine unread.Host line = ⊥
IsLimitLine (unread.TooMany kind count) line = line ≡ limit_refusal kind count

abbrev pub IsTreeLine : TreeError → List ℕ → Type 0
IsTreeLine NoMemory line = ⊥
IsTreeLine (Duplicate name) line = line ≡ codes "refused duplicate class " ++ printed name
IsTreeLine (Cycle name) line = line ≡ codes "refused cyclic class " ++ printed name

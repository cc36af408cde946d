-- Why class files are no hierarchy.
use Rattle.std.specs.Prelude.{List}
use Rattle.class_form.specs.Folders.{StandsTwice, IsOwnAncestor, IsLeastName, AreDistinct}
use Rattle.class_form.specs.declared.class_file.ClassFile.{ClassFile}
use Rattle.hierarchy.specs.declared.tree.TreeError.{TreeError}
use Rattle.hierarchy.specs.declared.tree.TreeError.TheVariants.{NoMemory, Duplicate, Cycle}

-- the first name that stands twice; where none does, the first of a class that is its own ancestor
abbrev pub IsCause : List ClassFile → TreeError → Type 0
IsCause files NoMemory = Unit {0}
IsCause files (Duplicate name) = IsLeastName (StandsTwice files) name
IsCause files (Cycle name) = AreDistinct files × IsLeastName (IsOwnAncestor files) name

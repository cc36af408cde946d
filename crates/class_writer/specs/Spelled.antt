-- Which values are class files.
use Rattle.std.specs.Prelude.{ℕ, List}
use Rattle.class_form.specs.ClassRules.{Spells}
use Rattle.class_form.specs.declared.class_file.ClassFile.{ClassFile}

-- some bytes are those of the class file
abbrev pub IsSpelled : ClassFile → Type 0
IsSpelled c = (bytes : List ℕ) × Spells bytes c

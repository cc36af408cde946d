-- Superclasses of a class that may be there.
use Rattle.std.specs.Prelude.{◌≡◌, ◌⊎◌, ◌↔◌, List, Option, Some, None, Contains}
use Rattle.slicer_ids.specs.declared.ids.ClassId.{ClassId}
use Rattle.class_form.specs.Classes.{IsSuperOrSelf}
use Rattle.class_form.specs.declared.class_file.ClassFile.{ClassFile}

-- the class is the first one, or one of its superclasses
abbrev pub IsFromFirst : List ClassFile → Option ClassId → ClassId → Type 0
IsFromFirst classes None c = ⊥
IsFromFirst classes (Some a) c = IsSuperOrSelf classes a.0 c.0

-- what was climbed from the first class has, with what is to come, all of them
abbrev pub IsClimbed : List ClassFile → Option ClassId → List ClassId → Option ClassId → Type 0
IsClimbed classes first xs next = (c : ClassId) → IsFromFirst classes first c ↔ (Contains xs c ⊎ IsFromFirst classes next c)

-- A program of the classes of a hierarchy.
use Rattle.std.specs.Prelude.{◌≡◌, List}
use Rattle.class_form.specs.Pools.{MemberKey}
use Rattle.class_form.specs.Resolution.{DeclaresField, DeclaresMethod}
use Rattle.class_form.specs.Numbers.{AreMethods, AreFields}
use Rattle.class_form.specs.declared.class_file.ClassFile.{ClassFile}
use Rattle.program_form.specs.Programs.{Program, DeclaresOnce}
use Rattle.constraint_form.specs.Asked.{IsReadProgram}

-- the program has these classes, their methods and their fields, and constraints can be made of it
pub record IsOfClasses (classes : List ClassFile) (p : Program) : Type 0 where
  pub classes_are : p.classes ≡ classes
  pub methods_are : AreMethods classes p.methods
  pub fields_are : AreFields classes p.fields
  -- no class declares two fields, or two methods, of one name and descriptor
  pub fields_once : (key : MemberKey) → DeclaresOnce (DeclaresField classes key)
  pub methods_once : (key : MemberKey) → DeclaresOnce (DeclaresMethod classes key)
  pub read : IsReadProgram p

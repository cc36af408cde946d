-- The bodies of a program are those of its classes' code.
use Rattle.std.specs.Prelude.{◌≡◌, ◌<◌, ℕ, List, All, AllPairs, Contains}
use Rattle.slicer_ids.specs.declared.ids.MethodId.{MethodId}
use Rattle.class_form.specs.Classes.{Declared, IsClass, HasCode, AreInOrder}
use Rattle.class_form.specs.Numbers.{AreMethods, AreFields}
use Rattle.class_form.specs.declared.class_file.ClassFile.{ClassFile}
use Rattle.class_form.specs.declared.class_file.Member.{Member}
use Rattle.class_form.specs.declared.class_file.CodeBody.{CodeBody}
use Rattle.class_form.specs.declared.body.Body.{Body}
use Rattle.body_form.specs.Bodies.{IsBodyOf}
use Rattle.program_form.specs.Programs.{Program, MethodOf, CodeOf}

-- the body is that of the code of its method
abbrev pub IsOfMethod : Program → Body → Type 0
IsOfMethod p b =
    (d : Declared) × (m : Member) × (name : List ℕ) × (descriptor : List ℕ) × (k : ClassFile) × (code : CodeBody)
    × MethodOf p b.method d m name descriptor × IsClass p.classes d.class k × HasCode m code × IsBodyOf k.pool b.method m code b

abbrev pub MethodBefore : Body → Body → Type 0
MethodBefore a b = a.method.0 < b.method.0

-- classes, methods and fields are numbered in order, and each method with code has one body, that of its code; other bodies there are none
pub record IsProgramOfCode (p : Program) : Type 0 where
  pub classes : AreInOrder p.classes
  pub methods : AreMethods p.classes p.methods
  pub fields : AreFields p.classes p.fields
  pub bodies : All (IsOfMethod p) p.bodies
  pub order : AllPairs MethodBefore p.bodies
  pub whole : (m : MethodId) (code : CodeBody) → CodeOf p m code → (b : Body) × Contains p.bodies b × (b.method ≡ m)

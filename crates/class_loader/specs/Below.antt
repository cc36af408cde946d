-- The bodies of the methods below a number. Private: no public clause cites this.
use Rattle.std.specs.Prelude.{◌≡◌, ◌⊎◌, ◌<◌, ℕ, List, [], ◌∷◌, ◌++◌, All, AllPairs, Contains, Some, slice_get}
use Rattle.slicer_ids.specs.declared.ids.ClassId.{ClassId}
use Rattle.slicer_ids.specs.declared.ids.MethodId.{MethodId}
use Rattle.class_form.specs.Classes.{Declared, IsClass}
use Rattle.class_form.specs.declared.class_file.ClassFile.{ClassFile}
use Rattle.class_form.specs.declared.class_file.Member.{Member}
use Rattle.class_form.specs.declared.class_file.CodeBody.{CodeBody}
use Rattle.class_form.specs.declared.body.Body.{Body}
use Rattle.body_form.specs.Bodies.{IsBodyOf}
use Rattle.program_form.specs.Programs.{Program, CodeOf}
use Rattle.program_code.specs.Codes.{IsOfMethod, MethodBefore}
use Rattle.body_rules.specs.Methods.{IsCoded, number_of}

-- a program of these classes and methods, of which no more is said
abbrev pub program_with : List ClassFile → List Declared → Program
program_with classes methods = record { classes = classes; methods = methods; fields = []; bodies = []; entries = [] }

-- the bodies of the code of the methods below a number, in order of method
pub record AreBodiesBelow (classes : List ClassFile) (methods : List Declared) (bodies : List Body) (n : ℕ) : Type 0 where
  pub each : All (λ b. (b.method.0 < n) × IsOfMethod (program_with classes methods) b) bodies
  pub order : AllPairs MethodBefore bodies
  pub whole : (m : MethodId) (code : CodeBody) → m.0 < n → CodeOf (program_with classes methods) m code → (b : Body) × Contains bodies b × (b.method ≡ m)

-- the body of this code of the method at a place of a class is added
abbrev pub AddsCode : ClassFile → ℕ → MethodId → CodeBody → List Body → List Body → Type 0
AddsCode k place number code before after =
    (m : Member) × (b : Body) × IsCoded k place m code × IsBodyOf k.pool number m code b × (after ≡ before ++ b ∷ [])

-- .. where it has code
abbrev pub AddsBody : ClassFile → ℕ → MethodId → List Body → List Body → Type 0
AddsBody k place number before after =
    ((code : CodeBody) × AddsCode k place number code before after) ⊎ (((m : Member) (code : CodeBody) → IsCoded k place m code → ⊥) × (after ≡ before))

-- .. and of the method of a number
abbrev pub AddsBodyAt : List ClassFile → List (ClassId × ℕ) → ℕ → List Body → List Body → Type 0
AddsBodyAt classes places number before after =
    (p : ClassId × ℕ) × (k : ClassFile) × (slice_get places number ≡ Some p) × IsClass classes p.0.0 k × AddsBody k p.1 (number_of number) before after

-- The constraints of the root for one entry method.
use Rattle.std.specs.Prelude.{◌≡◌, ◌⊎◌, ℕ, true}
use Rattle.class_form.specs.declared.class_file.ClassFile.{ClassFile}
use Rattle.dep_form.specs.declared.rules.Entry.{Entry}
use Rattle.dep_form.specs.declared.rules.Rule.{Rule}
use Rattle.dep_form.specs.declared.rules.Rule.TheVariants.{Enter}
use Rattle.dep_form.specs.declared.system.System.{System}
use Rattle.program_form.specs.Programs.{Program, ClassOf, Initializes}
use Rattle.program_form.specs.Sites.{OfRoot}
use Rattle.program_form.specs.Facts.{ArgumentOf}
use Rattle.program_form.specs.Systems.{SiteNumber, VariableNumber}
use Rattle.constraint_rules.specs.Forms.{EnterOf, AllocOf}

-- it is given the array of arguments
abbrev pub IsGiven : Program → System → Entry → Rule → Type 0
IsGiven p s e r = (e.arguments ≡ true) × AllocOf (VariableNumber p s (ArgumentOf e.method 0)) (λ n. SiteNumber p n (OfRoot 0)) r

-- its class is initialized
abbrev pub IsInitializedFirst : Program → Entry → Rule → Type 0
IsInitializedFirst p e r = (c : ℕ) × (k : ClassFile) × ClassOf p e.method c k × EnterOf (Initializes p c) r

abbrev pub IsEntryRule : Program → System → Entry → Rule → Type 0
IsEntryRule p s e r = (r ≡ Enter e.method) ⊎ (IsGiven p s e r ⊎ IsInitializedFirst p e r)

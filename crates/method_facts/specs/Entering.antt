-- The methods that the root enters.
use Rattle.std.specs.Prelude.{◌≡◌, ℕ, List, Some, Contains, slice_get}
use Rattle.slicer_ids.specs.declared.ids.MethodId.{MethodId}
use Rattle.class_form.specs.Classes.{Declared, IsMethod}
use Rattle.class_form.specs.Numbers.{AreMethods}
use Rattle.class_form.specs.Resolution.{clinit_name}
use Rattle.class_form.specs.declared.class_file.ClassFile.{ClassFile}
use Rattle.class_form.specs.declared.class_file.Member.{Member}
use Rattle.dep_form.specs.declared.rules.Constraint.{Constraint}
use Rattle.slicer_ids.specs.declared.ids.SiteId.{SiteId}
use Rattle.dep_form.specs.declared.rules.Var.{Var}
use Rattle.dep_form.specs.declared.rules.Rule.TheVariants.{Alloc, Enter}
use Rattle.dep_form.specs.declared.system.System.{System}
use Rattle.dep_form.specs.PointsTo.{Reached}
use Rattle.dep_form.specs.Constraints.{SystemHolds}
use Rattle.fact_form.specs.EntryCalls.{root_of}

-- the constraint is that the root enters the method
abbrev pub Enters : MethodId → Constraint → MethodId → Type 0
Enters root c t = (c.method ≡ root) × (c.rule ≡ Enter t)

-- .. gives the variable a site
abbrev pub Gives : MethodId → Constraint → Var → Type 0
Gives root c x = (h : SiteId) × (c.method ≡ root) × (c.rule ≡ Alloc x h)

-- a constraint of the root gives the variable a site
abbrev pub IsGivenVariable : System → Var → Type 0
IsGivenVariable s x = (h : SiteId) × Contains s.constraints (record { method = root_of s; rule = Alloc x h })

-- the method of this number initializes its class
abbrev pub IsInitializerIn : List ClassFile → List Declared → MethodId → Type 0
IsInitializerIn classes methods m =
    (d : Declared) × (x : Member) × (name : List ℕ) × (descriptor : List ℕ)
    × (slice_get methods m.0 ≡ Some d) × IsMethod classes d x name descriptor × (name ≡ clinit_name)

-- .. by the numbers of the methods of the classes
abbrev pub IsInitializerOf : List ClassFile → MethodId → Type 0
IsInitializerOf classes m = (methods : List Declared) × AreMethods classes methods × IsInitializerIn classes methods m

-- .. and may run
abbrev pub IsRunInitializer : System → List ClassFile → MethodId → Type 0
IsRunInitializer s classes m = SystemHolds s (Reached m) × IsInitializerOf classes m

-- the method of this number is the one, and such
abbrev pub AtNumber : System → List ClassFile → ℕ → MethodId → Type 0
AtNumber s classes n m = (m.0 ≡ n) × IsRunInitializer s classes m

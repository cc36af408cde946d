-- The root's calls, by the constraints of the root.
use Rattle.std.specs.Prelude.{◌≡◌, ◌⊎◌, ◌<◌, List, Some, Contains, length, slice_get}
use Rattle.slicer_ids.specs.Sets.{IsOrderedListOf}
use Rattle.slicer_ids.specs.declared.ids.MethodId.{MethodId}
use Rattle.slicer_ids.specs.declared.ids.SiteId.{SiteId}
use Rattle.dep_form.specs.declared.rules.Var.{Var}
use Rattle.dep_form.specs.declared.rules.Rule.TheVariants.{Enter, Alloc}
use Rattle.dep_form.specs.declared.rules.MethodVars.{MethodVars}
use Rattle.dep_form.specs.declared.system.System.{System}
use Rattle.dep_form.specs.PointsTo.{Reached}
use Rattle.dep_form.specs.Constraints.{SystemHolds, IsMethodVars}
use Rattle.program_form.specs.Programs.{Program, IsInitializer}

-- the root has the number after those of the methods
abbrev pub root_of : System → MethodId
root_of s = record { 0 = length s.methods }

-- the root calls the method: it enters it, or the method is an initializer that may run
abbrev pub IsEntered : Program → System → MethodId → Type 0
IsEntered p s t = Contains s.constraints (record { method = root_of s; rule = Enter t }) ⊎ (SystemHolds s (Reached t) × IsInitializer p t)

-- the methods that the root calls, in order: the number of a call is its place
abbrev pub AreEntryCalls : Program → System → List MethodId → Type 0
AreEntryCalls p s ms = IsOrderedListOf (λ (a : MethodId) (b : MethodId). a.0 < b.0) ms (IsEntered p s)

-- the root gives the method its first argument
abbrev pub IsGiven : System → MethodId → Type 0
IsGiven s t =
    (v : MethodVars) × (x : Var) × (h : SiteId) × IsMethodVars s t v × (slice_get v.formals 0 ≡ Some x)
    × Contains s.constraints (record { method = root_of s; rule = Alloc x h })

-- The forms of constraints, over what their parts may be.
use Rattle.std.specs.Prelude.{◌≡◌, ℕ, Option}
use Rattle.slicer_ids.specs.declared.ids.ClassId.{ClassId}
use Rattle.slicer_ids.specs.declared.ids.MethodId.{MethodId}
use Rattle.slicer_ids.specs.declared.ids.SiteId.{SiteId}
use Rattle.slicer_ids.specs.declared.ids.FieldId.{FieldId}
use Rattle.slicer_ids.specs.declared.ids.CallId.{CallId}
use Rattle.dep_form.specs.declared.rules.Var.{Var}
use Rattle.dep_form.specs.declared.rules.Rule.{Rule}
use Rattle.dep_form.specs.declared.rules.Rule.TheVariants.{Enter, Alloc, Hold, Copy, Load, Store, Direct, Virtual, OutsideDirect}

abbrev pub EnterOf : (MethodId → Type 0) → Rule → Type 0
EnterOf Target r = (m : MethodId) × Target m × (r ≡ Enter m)

abbrev pub AllocOf : (Var → Type 0) → (SiteId → Type 0) → Rule → Type 0
AllocOf To Site r = (x : Var) × (n : SiteId) × To x × Site n × (r ≡ Alloc x n)

abbrev pub CopyOf : (Var → Type 0) → (Var → Type 0) → Option ClassId → Rule → Type 0
CopyOf From To keep r = (x : Var) × (y : Var) × From x × To y × (r ≡ Copy x y keep)

abbrev pub LoadOf : (Var → Type 0) → (FieldId → Type 0) → (Var → Type 0) → Rule → Type 0
LoadOf Base Field To r = (x : Var) × (g : FieldId) × (y : Var) × Base x × Field g × To y × (r ≡ Load x g y)

abbrev pub StoreOf : (Var → Type 0) → (FieldId → Type 0) → (Var → Type 0) → Rule → Type 0
StoreOf Base Field From r = (x : Var) × (g : FieldId) × (y : Var) × Base x × Field g × From y × (r ≡ Store x g y)

abbrev pub DirectOf : (CallId → Type 0) → (MethodId → Type 0) → Rule → Type 0
DirectOf Call Target r = (c : CallId) × (m : MethodId) × Call c × Target m × (r ≡ Direct c m)

abbrev pub OutsideOf : (CallId → Type 0) → Rule → Type 0
OutsideOf Call r = (c : CallId) × Call c × (r ≡ OutsideDirect c)

abbrev pub VirtualOf : (CallId → Type 0) → (ℕ → Type 0) → Rule → Type 0
VirtualOf Call Signature r = (c : CallId) × (g : ℕ) × Call c × Signature g × (r ≡ Virtual c g)

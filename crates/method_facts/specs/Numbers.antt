-- Numbers in lists by method.
use Rattle.std.specs.Prelude.{◌≡◌, ◌<◌, List, Some, Contains, slice_get}
use Rattle.std.specs.declared.cmp.Ordering.{Ordering}
use Rattle.dep_form.specs.contracts.rules.VarOrd.TheImpl as of_var
use Rattle.dep_form.specs.declared.rules.Var.{Var}
use Rattle.slicer_ids.specs.declared.ids.LocId.{LocId}
use Rattle.slicer_ids.specs.declared.ids.MethodId.{MethodId}

abbrev pub LocBefore : LocId → LocId → Type 0
LocBefore a b = a.0 < b.0

abbrev pub MethodBefore : MethodId → MethodId → Type 0
MethodBefore a b = a.0 < b.0

-- the list of the method has the number
abbrev pub HasNumber : List (List LocId) → MethodId → LocId → Type 0
HasNumber lists m n = (ls : List LocId) × (slice_get lists m.0 ≡ Some ls) × Contains ls n

-- the order of variables, as it is compared
abbrev pub var_cmp : Var → Var → Ordering
var_cmp = (of_var.ghosts).cmp

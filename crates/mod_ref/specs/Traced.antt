-- The locations that some statement defines and some statement uses, and their limit.
use Rattle.std.specs.Prelude.{◌≡◌, ◌↔◌, ◌<◌, ◌^◌, ℕ, List, Some, All, Contains, length, slice_get}
use Rattle.slicer_ids.specs.Sets.{IsOrderedListOf}
use Rattle.slicer_ids.specs.declared.ids.LocId.{LocId}
use Rattle.slicer_ids.specs.declared.ids.MethodId.{MethodId}
use Rattle.slicer_ids.specs.declared.limits.LimitKind.TheVariants.{Locations}
use Rattle.dep_form.specs.declared.effects.Location.{Location}
use Rattle.dep_form.specs.declared.rules.TooMany.{TooMany}
use Rattle.dep_form.specs.declared.rules.TooMany.TheVariants.{NoMemory, Limit}
use Rattle.dep_form.specs.declared.system.System.{System}
use Rattle.dep_form.specs.Effects.{DefinedIn, IsTraced, UsedIn}
use Rattle.dep_form.specs.Orders.{RiseBy}
use Rattle.dep_form.specs.Summaries.{HasSize}
use Rattle.mod_ref.specs.Locations.{location_cmp}
use Rattle.mod_ref.specs.declared.effects.Effect.{Effect}
use Rattle.mod_ref.specs.declared.finding.Traced.{Traced}

abbrev pub AreDefinitions : System → List Effect → Type 0
AreDefinitions s effects = (x : Effect) → Contains effects x ↔ DefinedIn s x.method x.location

abbrev pub AreUses : System → List Effect → Type 0
AreUses s effects = (x : Effect) → Contains effects x ↔ UsedIn s x.method x.location

-- what was collected, and the locations that are in both parts
pub record IsTracedOf (s : System) (t : Traced) : Type 0 where
  pub defined : AreDefinitions s t.defined.items
  pub used : AreUses s t.used.items
  pub order : RiseBy location_cmp (λ l. l) t.locations.items
  pub members : (l : Location) → Contains t.locations.items l ↔ IsTraced s l

-- list m has, in order, the numbers of the locations of which H m holds
pub record AreSetsOf (s : System) (H : MethodId → Location → Type 0) (locations : List Location) (lists : List (List LocId)) : Type 0 where
  pub methods : length lists ≡ length s.methods
  pub each : (m : MethodId) (ls : List LocId) → slice_get lists m.0 ≡ Some ls →
      IsOrderedListOf (λ (a : LocId) (b : LocId). a.0 < b.0) ls (λ n. (l : Location) × (slice_get locations n.0 ≡ Some l) × H m l)
  pub within : (m : ℕ) (ls : List LocId) → slice_get lists m ≡ Some ls → All (λ (l : LocId). l.0 < length locations) ls

-- so many traced locations are too many
abbrev pub IsTooMany : System → TooMany → Type 0
IsTooMany s NoMemory = Unit {0}
IsTooMany s (Limit kind n) = (kind ≡ Locations) × (2 ^ 20 < n) × HasSize (IsTraced s) n

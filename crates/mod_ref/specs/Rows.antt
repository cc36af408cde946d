-- Tables of rows and of lists, and what is reached along callers.
use Rattle.std.specs.Prelude.{◌≡◌, ◌↔◌, ◌<◌, ℕ, List, [], Some, AllPairs, Contains, length, slice_get, slice_index_or}
use Rattle.std.specs.Global.{Vec}
use Rattle.std.specs.Option.{option_map_or}
use Rattle.slicer_ids.specs.Walks.{LeadsBy}
use Rattle.slicer_ids.specs.declared.ids.CallId.{CallId}
use Rattle.slicer_ids.specs.declared.ids.LocId.{LocId}
use Rattle.slicer_ids.specs.declared.ids.MethodId.{MethodId}
use Rattle.slicer_ids.specs.declared.ids.Statement.{Statement}
use Rattle.dep_form.specs.declared.call_site.CallSite.{CallSite}
use Rattle.dep_form.specs.declared.effects.Location.{Location}
use Rattle.dep_form.specs.declared.system.System.{System}
use Rattle.dep_form.specs.Constraints.{IsCallSite, SystemHolds}
use Rattle.dep_form.specs.Effects.{MayCall}
use Rattle.dep_form.specs.PointsTo.{Calls}
use Rattle.mod_ref.specs.Gains.{Gains}
use Rattle.mod_ref.specs.declared.effects.Effect.{Effect}

abbrev pub method : ℕ → MethodId
method n = record { 0 = n }

-- ---- rows
-- a row of a table; there is none past its end
abbrev pub row_of : {X : Type 0} → List (Vec X) → ℕ → List X
row_of {X} rows k = option_map_or (λ row. row.items) (slice_get rows k) []

-- row k got what P k holds of
abbrev pub RowsGain : {X : Type 0} → List (Vec X) → List (Vec X) → (ℕ → X → Type 0) → Type 0
RowsGain {X} old new P = (k : ℕ) → k < length old → Gains (row_of old k) (row_of new k) (P k)

-- the effect is on location k, and of the method
abbrev pub AtSource : List Location → Effect → ℕ → MethodId → Type 0
AtSource locations x k m = (l : Location) × (slice_get locations k ≡ Some l) × (x ≡ record { location = l; method = m })

-- row k has the methods of the effects on location k
abbrev pub AreSources : List Location → List Effect → List (Vec MethodId) → Type 0
AreSources locations effects rows =
    (k : ℕ) (l : Location) → slice_get locations k ≡ Some l → (m : MethodId) →
    Contains (row_of rows k) m ↔ Contains effects (record { location = l; method = m })

-- the call is of method m, and may go to method n
abbrev pub AtCaller : System → CallId → ℕ → MethodId → Type 0
AtCaller s c n m =
    (k : CallSite) × (t : Statement) × IsCallSite s c k × (k.place ≡ Some t) × (t.method ≡ m) × SystemHolds s (Calls c (method n))

-- row n has the methods with a call that may go to method n
pub record AreCallers (s : System) (rows : List (Vec MethodId)) : Type 0 where
  pub len : length rows ≡ length s.methods
  pub each : (n : ℕ) → n < length s.methods → (m : MethodId) → Contains (row_of rows n) m ↔ MayCall s m (method n)

-- ---- what is reached
abbrev pub CallsTo : List (Vec MethodId) → MethodId → MethodId → Type 0
CallsTo callers a b = Contains (row_of callers b.0) a

-- calls lead from the method to one of the list
abbrev pub LeadsInto : List (Vec MethodId) → List MethodId → MethodId → Type 0
LeadsInto callers targets m = (t : MethodId) × Contains targets t × LeadsBy (CallsTo callers) m t

-- ---- lists
abbrev pub list_of : List (List LocId) → ℕ → List LocId
list_of lists m = slice_index_or lists m []

abbrev pub Rises : List LocId → Type 0
Rises numbers = AllPairs (λ (a : LocId) (b : LocId). a.0 < b.0) numbers

abbrev pub ListsGain : List (List LocId) → List (List LocId) → (ℕ → LocId → Type 0) → Type 0
ListsGain old new P = (m : ℕ) → m < length old → Gains (list_of old m) (list_of new m) (P m)

-- list m has, in order, the numbers below `next` of the rows with a method to which calls lead from method m
pub record AreSetsBelow (callers sources : List (Vec MethodId)) (lists : List (List LocId)) (next : ℕ) : Type 0 where
  pub len : length lists ≡ length callers
  pub rises : (m : ℕ) → Rises (list_of lists m)
  pub members : (m : ℕ) → m < length callers → (n : LocId) → Contains (list_of lists m) n ↔ ((n.0 < next) × LeadsInto callers (row_of sources n.0) (method m))

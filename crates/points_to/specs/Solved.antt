-- How a solution is read from what was found.
use Rattle.std.specs.Prelude.{◌≡◌, ◌⊎◌, ◌<◌, ℕ, Bool, true, List, Option, Some, None, Contains, slice_get}
use Rattle.slicer_ids.specs.Order.{SiteBefore}
use Rattle.slicer_ids.specs.Sets.{IsOrderedListOf}
use Rattle.slicer_ids.specs.declared.ids.FieldId.{FieldId}
use Rattle.slicer_ids.specs.declared.ids.MethodId.{MethodId}
use Rattle.slicer_ids.specs.declared.ids.SiteId.{SiteId}
use Rattle.dep_form.specs.declared.rules.Var.{Var}
use Rattle.dep_form.specs.PointsTo.{Calls, Has, OutsideAt, Reached}
use Rattle.dep_form.specs.Solutions.{CellBefore, ReceiverBefore}
use Rattle.points_to.specs.declared.found.Found.{Found}
use Rattle.points_to.specs.declared.place.Place.TheVariants.{Cell}
use Rattle.points_to.specs.Items.{At}
use Rattle.points_to.specs.Meaning.{coded}
use Rattle.points_to.specs.Rules.{call, method}
use Rattle.points_to.specs.States.{Knows}

-- P holds of each item and its number
abbrev pub IsTableOf : {X : Type 0} → (ℕ → X → Type 0) → List X → Type 0
IsTableOf {X} P xs = (k : ℕ) (x : X) → slice_get xs k ≡ Some x → P k x

abbrev pub var : ℕ → Var
var n = record { 0 = n }

abbrev pub AreSitesOf : Found → ℕ → List SiteId → Type 0
AreSitesOf st v hs = IsOrderedListOf SiteBefore hs (λ h. Knows st (coded (Has (var v) h)))

abbrev pub AreTargetsOf : Found → ℕ → List MethodId → Type 0
AreTargetsOf st c ms = IsOrderedListOf (λ (a : MethodId) (b : MethodId). a.0 < b.0) ms (λ m. Knows st (coded (Calls (call c) m)))

abbrev pub AreReceiversOf : Found → ℕ → List (Option SiteId) → Type 0
AreReceiversOf st c os = IsOrderedListOf ReceiverBefore os (λ o. Knows st (coded (OutsideAt (call c) o)))

abbrev pub IsReachedAt : Found → ℕ → Bool → Type 0
IsReachedAt st m b = ((b ≡ true) → Knows st (coded (Reached (method m)))) × (Knows st (coded (Reached (method m))) → b ≡ true)

-- none, where the call goes outside without a receiver; the receivers of a list
abbrev pub IsReceiverUpTo : Bool → List ℕ → Option SiteId → Type 0
IsReceiverUpTo alone numbers None = alone ≡ true
IsReceiverUpTo alone numbers (Some h) = Contains numbers h.0

-- the cell comes before a field of an object
abbrev pub IsBelow : ℕ → ℕ → SiteId × FieldId × SiteId → Type 0
IsBelow o f x = (x.0.0 < o) ⊎ ((x.0.0 ≡ o) × (x.1.0 < f))

abbrev pub KnowsCell : Found → SiteId × FieldId × SiteId → Type 0
KnowsCell st x = Knows st (At (Cell x.0 x.1) x.2.0)

-- the cells before a field of an object
abbrev pub AreCellsUpTo : Found → ℕ → ℕ → List (SiteId × FieldId × SiteId) → Type 0
AreCellsUpTo st o f cells = IsOrderedListOf CellBefore cells (λ x. IsBelow o f x × KnowsCell st x)

abbrev pub AreCells : Found → List (SiteId × FieldId × SiteId) → Type 0
AreCells st cells = IsOrderedListOf CellBefore cells (KnowsCell st)

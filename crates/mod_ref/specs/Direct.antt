-- What a method's own statements define and use, part by part.
use Rattle.std.specs.Prelude.{◌≡◌, ◌⊎◌, ◌<◌, ◌^◌, ℕ, Bool, true, false, List, Option, Some, None, Contains, length, slice_get, option_and_then, if◌then◌else◌}
use Rattle.slicer_ids.specs.declared.ids.CallId.{CallId}
use Rattle.slicer_ids.specs.declared.ids.FieldId.{FieldId}
use Rattle.slicer_ids.specs.declared.ids.MethodId.{MethodId}
use Rattle.slicer_ids.specs.declared.ids.SiteId.{SiteId}
use Rattle.slicer_ids.specs.declared.ids.Statement.{Statement}
use Rattle.dep_form.specs.declared.call_site.CallSite.{CallSite}
use Rattle.dep_form.specs.declared.effects.Location.{Location}
use Rattle.dep_form.specs.declared.effects.Location.TheVariants.{Cell, Static}
use Rattle.dep_form.specs.declared.rules.OutsideRule.{OutsideRule}
use Rattle.dep_form.specs.declared.rules.SiteInfo.{SiteInfo}
use Rattle.dep_form.specs.declared.rules.Spot.{Spot}
use Rattle.dep_form.specs.declared.rules.Touch.{Touch}
use Rattle.dep_form.specs.declared.rules.Var.{Var}
use Rattle.dep_form.specs.declared.system.System.{System}
use Rattle.dep_form.specs.Constraints.{ArgumentHas, IsCallSite, IsElements, IsSite, IsState, SystemHolds, elements_field, length_field, state_field}
use Rattle.dep_form.specs.Effects.{IsCallIn, IsSpotAt, TouchedIn}
use Rattle.dep_form.specs.PointsTo.{Has, OneMayBe, OutsideArgument, OutsideAt, Reached, Reads, Writes}
use Rattle.dep_form.specs.Within.{Counts, IsWithinSpot}
use Rattle.mod_ref.specs.declared.effects.Effect.{Effect}
use Rattle.mod_ref.specs.declared.outside.OutsideCall.{OutsideCall}

abbrev pub effect : Location → MethodId → Effect
effect l m = record { location = l; method = m }

abbrev pub cell : SiteId → FieldId → MethodId → Effect
cell h f m = effect (Cell h f) m

-- ---- statements that are no calls
-- the field of each site that the variable may be
abbrev pub AtVariable : System → FieldId → MethodId → Var → Effect → Type 0
AtVariable s f m v x = (h : SiteId) × SystemHolds s (Has v h) × (x ≡ cell h f m)

abbrev pub AtSpot : System → MethodId → Spot → Effect → Type 0
AtSpot s m spot x = (l : Location) × IsSpotAt s spot l × (x ≡ effect l m)

abbrev pub AtTouch : System → Bool → Touch → Effect → Type 0
AtTouch s write t x = (t.write ≡ write) × SystemHolds s (Reached t.place.method) × AtSpot s t.place.method t.spot x

abbrev pub AtTouches : System → Bool → Effect → Type 0
AtTouches s write x = SystemHolds s (Reached x.method) × TouchedIn s write x.method x.location

-- how many of each thing a system has
abbrev pub counts : System → Counts
counts s = record { calls = length s.calls; methods = length s.methods; sites = length s.sites; fields = s.fields; vars = s.vars }

abbrev pub IsWithinTouch : System → Touch → Type 0
IsWithinTouch s t = (t.place.method.0 < length s.methods) × IsWithinSpot (counts s) t.spot

-- ---- calls that go outside
-- the elements of an array site, or the state of any site
abbrev pub field_in : System → Bool → SiteInfo → Option FieldId
field_in s elements info = if info.array then Some (elements_field s) else (if elements then None else Some (state_field s))

abbrev pub field_of : System → Bool → SiteId → Option FieldId
field_of s elements h = option_and_then (field_in s elements) (slice_get s.sites h.0)

-- a call of a reached method that goes outside
pub record IsOutsideCall (s : System) (call : OutsideCall) : Type 0 where
  pub site : IsCallSite s call.number call.site.now
  pub rule : slice_get s.outside_rules call.number.0 ≡ Some call.rule.now
  pub place : call.site.now.place ≡ Some call.place
  pub reached : SystemHolds s (Reached call.place.method)
  pub gone : (o : Option SiteId) × SystemHolds s (OutsideAt call.number o)

-- the number is of no such call
abbrev pub IsNoOutsideCall : System → CallId → Type 0
IsNoOutsideCall s c =
    (k : CallSite) (t : Statement) (o : Option SiteId) → IsCallSite s c k → k.place ≡ Some t → SystemHolds s (Reached t.method) →
    SystemHolds s (OutsideAt c o) → ⊥

-- the field of the site, where it has one
abbrev pub AtSite : System → Bool → MethodId → SiteId → Effect → Type 0
AtSite s elements m h x = (f : FieldId) × (field_of s elements h ≡ Some f) × (x ≡ cell h f m)

abbrev pub AtReceiver : System → Bool → MethodId → Option SiteId → Effect → Type 0
AtReceiver s elements m o x = (h : SiteId) × (o ≡ Some h) × AtSite s elements m h x

-- that field of what an argument may be
abbrev pub AtArgument : System → Bool → OutsideCall → ℕ → Effect → Type 0
AtArgument s elements call i x =
    (h : SiteId)
    × OutsideArgument (SystemHolds s) call.number call.site.now.instance call.rule.now (ArgumentHas s (SystemHolds s) call.site.now) (IsState s) i h
    × AtSite s elements call.place.method h x

-- the call writes, or reads, the location through an argument
abbrev pub Passed : System → Bool → CallId → CallSite → OutsideRule → Location → Type 0
Passed s true c k r l =
    (b : SiteId) × (f : FieldId) × (l ≡ Cell b f)
    × Writes (SystemHolds s) c k.instance r (ArgumentHas s (SystemHolds s) k) (IsState s) (IsElements s) b f
Passed s false c k r l =
    (b : SiteId) × (f : FieldId) × (l ≡ Cell b f)
    × (Reads (SystemHolds s) c k.instance r (ArgumentHas s (SystemHolds s) k) (IsState s) b f
    ⊎ (OneMayBe (SystemHolds s) c k.instance r (ArgumentHas s (SystemHolds s) k) (IsState s) r.written b × IsState s b f))

abbrev pub AtCall : System → Bool → OutsideCall → Effect → Type 0
AtCall s write call x = (x.method ≡ call.place.method) × Passed s write call.number call.site.now call.rule.now x.location

abbrev pub AtNumber : System → Bool → ℕ → Effect → Type 0
AtNumber s write n x =
    SystemHolds s (Reached x.method)
    × ((k : CallSite) × (r : OutsideRule) × IsCallIn s x.method (record { 0 = n }) k r × Passed s write (record { 0 = n }) k r x.location)

abbrev pub AtCalls : System → Bool → Effect → Type 0
AtCalls s write x =
    SystemHolds s (Reached x.method)
    × ((c : CallId) × (k : CallSite) × (r : OutsideRule) × IsCallIn s x.method c k r × Passed s write c k r x.location)

-- ---- arrays that calls answer from outside
-- a call of a reached method at the place goes outside, and answers something fresh
abbrev pub IsFreshAt : System → CallId → Statement → Type 0
IsFreshAt s c t =
    (k : CallSite) × (o : Option SiteId) × (first : SiteId)
    × IsCallSite s c k × (k.place ≡ Some t) × SystemHolds s (Reached t.method) × SystemHolds s (OutsideAt c o) × (k.fresh ≡ Some first)

abbrev pub IsFreshPlace : System → Statement → Type 0
IsFreshPlace s t = (c : CallId) × IsFreshAt s c t

-- the length and the elements of an array
abbrev pub AtArray : System → SiteId → MethodId → Effect → Type 0
AtArray s h m x = (x ≡ cell h (length_field s) m) ⊎ (x ≡ cell h (elements_field s) m)

-- .. where the site is an array of one of the places
abbrev pub AtInfo : System → List Statement → SiteId → SiteInfo → Effect → Type 0
AtInfo s places h info x = (t : Statement) × (info.array ≡ true) × (info.place ≡ Some t) × Contains places t × AtArray s h t.method x

abbrev pub AtIndex : System → List Statement → ℕ → Effect → Type 0
AtIndex s places n x = (info : SiteInfo) × (slice_get s.sites n ≡ Some info) × AtInfo s places (record { 0 = n }) info x

-- the call answers the array afresh, and the location is its length or its elements
abbrev pub FreshDefines : System → CallId → CallSite → Location → Type 0
FreshDefines s c k l =
    (o : Option SiteId) × (first : SiteId) × (h : SiteId) × (info : SiteInfo)
    × SystemHolds s (OutsideAt c o) × (k.fresh ≡ Some first) × IsSite s h info × (info.place ≡ k.place) × (info.array ≡ true)
    × ((l ≡ Cell h (length_field s)) ⊎ (l ≡ Cell h (elements_field s)))

abbrev pub AtFresh : System → Effect → Type 0
AtFresh s x =
    SystemHolds s (Reached x.method)
    × ((c : CallId) × (k : CallSite) × (r : OutsideRule) × IsCallIn s x.method c k r × FreshDefines s c k x.location)

-- sites, calls and methods have numbers of 32 bits
abbrev pub IsSmall : System → Type 0
IsSmall s = (length s.sites < 2 ^ 32) × (length s.calls < 2 ^ 32) × (length s.methods < 2 ^ 32)

-- Which statements define and use which locations, part by part.
use Rattle.std.specs.Prelude.{◌≡◌, ◌⊎◌, ◌↔◌, ℕ, Bool, true, false, List, Option, Some, Contains, length, slice_get}
use Rattle.std.specs.declared.cmp.Ordering.{Ordering}
use Rattle.slicer_ids.specs.declared.ids.CallId.{CallId}
use Rattle.slicer_ids.specs.declared.ids.FieldId.{FieldId}
use Rattle.slicer_ids.specs.declared.ids.LocId.{LocId}
use Rattle.slicer_ids.specs.declared.ids.SiteId.{SiteId}
use Rattle.slicer_ids.specs.declared.ids.Statement.{Statement}
use Rattle.dep_form.specs.declared.call_site.CallSite.{CallSite}
use Rattle.dep_form.specs.declared.effects.Location.{Location}
use Rattle.dep_form.specs.declared.effects.Location.TheVariants.{Cell}
use Rattle.dep_form.specs.declared.effects.ModRef.{ModRef}
use Rattle.dep_form.specs.declared.rules.OutsideRule.{OutsideRule}
use Rattle.dep_form.specs.declared.rules.SiteInfo.{SiteInfo}
use Rattle.dep_form.specs.declared.rules.Spot.{Spot}
use Rattle.dep_form.specs.declared.rules.Touch.{Touch}
use Rattle.dep_form.specs.declared.rules.Var.{Var}
use Rattle.dep_form.specs.declared.system.System.{System}
use Rattle.dep_form.specs.Constraints.{ArgumentHas, IsCallSite, IsState, SystemHolds, elements_field, length_field}
use Rattle.dep_form.specs.Effects.{IsSpotAt}
use Rattle.dep_form.specs.Orders.{RiseBy}
use Rattle.dep_form.specs.PointsTo.{Has, OutsideArgument, OutsideAt}
use Rattle.fact_form.specs.EffectNumbers.{IsLocation}
use Rattle.mod_ref.specs.Direct.{field_of}
use Rattle.method_facts.specs.Calls.{IsCallAt}
use Rattle.worklists.specs.Growth.{FromOne}
use Rattle.worklists.proofs.Growing.{FromBelow}
use Rattle.input_tables.specs.declared.effects.Effect.{Effect}
use Rattle.input_tables.specs.declared.outside.Way.{Way}
use Rattle.input_tables.specs.declared.outside.Way.TheVariants.{Writes, Copies, Reads}
use Rattle.input_tables.specs.contracts.effects.EffectOrd.TheImpl as of_effect

-- the order of effects, as it is compared
abbrev pub effect_cmp : Effect → Effect → Ordering
effect_cmp = (of_effect.ghosts).cmp

abbrev pub effect : Statement → LocId → Effect
effect t n = record { at = t; location = n }

-- the effect is on the location
abbrev pub AtLocation : ModRef → Statement → Location → Effect → Type 0
AtLocation mr t l x = (n : LocId) × IsLocation mr n l × (x ≡ effect t n)

-- .. on the field of a site
abbrev pub AtCell : ModRef → FieldId → Statement → SiteId → Effect → Type 0
AtCell mr f t h x = AtLocation mr t (Cell h f) x

-- the calls of numbers
abbrev pub call_of : ℕ → CallId
call_of n = record { 0 = n }

-- a call that goes outside, its rule and its place
pub record IsOutside (s : System) (c : CallId) (k : CallSite) (r : OutsideRule) (t : Statement) : Type 0 where
  pub site : IsCallSite s c k
  pub rule : slice_get s.outside_rules c.0 ≡ Some r
  pub place : k.place ≡ Some t
  pub gone : (o : Option SiteId) × SystemHolds s (OutsideAt c o)

-- the number is of no call at a statement that goes outside
abbrev pub IsNoneOutside : System → CallId → Type 0
IsNoneOutside s c = (k : CallSite) (r : OutsideRule) (t : Statement) → IsOutside s c k r t → ⊥

-- the call goes outside, and answers something fresh
abbrev pub IsAnswered : System → CallId → Type 0
IsAnswered s c =
    ((k : CallSite) × (first : SiteId) × IsCallSite s c k × (k.fresh ≡ Some first)) × ((o : Option SiteId) × SystemHolds s (OutsideAt c o))

module _ (s : System) (mr : ModRef) where
  -- ---- statements that are no calls
  abbrev pub AtVariable : FieldId → Statement → Var → Effect → Type 0
  AtVariable f t v x = (h : SiteId) × SystemHolds s (Has v h) × AtLocation mr t (Cell h f) x

  abbrev pub AtSpot : Statement → Spot → Effect → Type 0
  AtSpot t spot x = (l : Location) × IsSpotAt s spot l × AtLocation mr t l x

  abbrev pub AtTouch : Bool → Touch → Effect → Type 0
  AtTouch write u x = (u.write ≡ write) × AtSpot u.place u.spot x

  -- ---- calls that go outside
  -- the field of a site, where it has one: its elements, or its state
  abbrev pub AtSite : Bool → Statement → SiteId → Effect → Type 0
  AtSite elements t h x = (f : FieldId) × (field_of s elements h ≡ Some f) × AtLocation mr t (Cell h f) x

  abbrev pub AtReceiver : Bool → Statement → Option SiteId → Effect → Type 0
  AtReceiver elements t o x = (h : SiteId) × (o ≡ Some h) × AtSite elements t h x

  -- that field of what an argument may be
  abbrev pub AtArgument : Bool → CallId → CallSite → OutsideRule → Statement → ℕ → Effect → Type 0
  AtArgument elements c k r t i x =
      (h : SiteId) × OutsideArgument (SystemHolds s) c k.instance r (ArgumentHas s (SystemHolds s) k) (IsState s) i h × AtSite elements t h x

  abbrev pub AtCall : Way → CallId → CallSite → OutsideRule → Statement → Effect → Type 0
  AtCall Writes c k r t x = FromOne (AtArgument false c k r t) r.states x ⊎ FromOne (AtArgument true c k r t) r.arrays x
  AtCall Copies c k r t x = FromOne (AtArgument false c k r t) r.written x
  AtCall Reads c k r t x = FromOne (AtArgument false c k r t) r.reads x

  abbrev pub AtNumber : Way → ℕ → Effect → Type 0
  AtNumber way n x = (k : CallSite) × (r : OutsideRule) × (t : Statement) × IsOutside s (call_of n) k r t × AtCall way (call_of n) k r t x

  -- ---- arrays that calls answer from outside
  abbrev pub AtArray : SiteId → Statement → Effect → Type 0
  AtArray h t x = AtLocation mr t (Cell h (length_field s)) x ⊎ AtLocation mr t (Cell h (elements_field s)) x

  abbrev pub AtCallOf : CallId → SiteId → Statement → Effect → Type 0
  AtCallOf c h t x = IsAnswered s c × AtArray h t x

  abbrev pub AtPlace : SiteId → Statement → Effect → Type 0
  AtPlace h t x = (c : CallId) × IsCallAt s.calls t c × AtCallOf c h t x

  abbrev pub AtInfo : SiteId → SiteInfo → Effect → Type 0
  AtInfo h info x = (t : Statement) × (info.array ≡ true) × (info.place ≡ Some t) × AtPlace h t x

  abbrev pub AtFresh : ℕ → Effect → Type 0
  AtFresh n x = (info : SiteInfo) × (slice_get s.sites n ≡ Some info) × AtInfo (record { 0 = n }) info x

  -- ---- what own nodes and results of statements define and use
  abbrev pub IsPut : Effect → Type 0
  IsPut x = FromOne (AtTouch true) s.touches x ⊎ FromBelow (AtNumber Writes) (length s.calls) x

  abbrev pub IsFresh : Effect → Type 0
  IsFresh x = FromBelow AtFresh (length s.sites) x

  abbrev pub IsGet : Effect → Type 0
  IsGet x = FromOne (AtTouch false) s.touches x ⊎ FromBelow (AtNumber Copies) (length s.calls) x

  abbrev pub IsRead : Effect → Type 0
  IsRead x = FromBelow (AtNumber Reads) (length s.calls) x

-- the list has such effects, in order of statements
pub record AreEffects (P : Effect → Type 0) (xs : List Effect) : Type 0 where
  pub order : RiseBy effect_cmp (λ x. x) xs
  pub members : (x : Effect) → Contains xs x ↔ P x

-- the definitions and uses of locations of a system
pub record IsHeapOf (s : System) (mr : ModRef) (puts fresh gets reads : List Effect) : Type 0 where
  pub puts_are : AreEffects (IsPut s mr) puts
  pub fresh_are : AreEffects (IsFresh s mr) fresh
  pub gets_are : AreEffects (IsGet s mr) gets
  pub reads_are : AreEffects (IsRead s mr) reads

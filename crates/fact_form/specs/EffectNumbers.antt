-- Which nodes define and use locations, by number.
use Rattle.std.specs.Prelude.{◌≡◌, ◌⊎◌, ℕ, true, false, List, Some, Contains, slice_get, Option}
use Rattle.slicer_ids.specs.declared.ids.MethodId.{MethodId}
use Rattle.slicer_ids.specs.declared.ids.LocId.{LocId}
use Rattle.slicer_ids.specs.declared.ids.SiteId.{SiteId}
use Rattle.slicer_ids.specs.declared.ids.FieldId.{FieldId}
use Rattle.slicer_ids.specs.declared.ids.CallId.{CallId}
use Rattle.dep_form.specs.declared.node.Node.{Node as NodeNumber}
use Rattle.dep_form.specs.declared.node.Node.TheVariants.{Own, Result, HeapArg, HeapResult}
use Rattle.dep_form.specs.declared.rules.OutsideRule.{OutsideRule}
use Rattle.dep_form.specs.declared.rules.SiteInfo.{SiteInfo}
use Rattle.dep_form.specs.declared.rules.Spot.{Spot}
use Rattle.dep_form.specs.declared.call_site.CallSite.{CallSite}
use Rattle.dep_form.specs.declared.system.System.{System}
use Rattle.dep_form.specs.declared.effects.Location.{Location}
use Rattle.dep_form.specs.declared.effects.Location.TheVariants.{Cell}
use Rattle.dep_form.specs.declared.effects.ModRef.{ModRef}
use Rattle.dep_form.specs.PointsTo.{OutsideAt, Writes, Reads, OneMayBe}
use Rattle.dep_form.specs.Constraints.{SystemHolds, ArgumentHas, IsSite, IsElements, IsState, elements_field, length_field}
use Rattle.dep_form.specs.Effects.{IsSpotAt}
use Rattle.program_form.specs.Programs.{Program}
use Rattle.program_form.specs.Nodes.{at}
use Rattle.program_form.specs.Systems.{IsCallOf}
use Rattle.fact_form.specs.NodeNumbers.{IsNumbered}

-- the location of this number
abbrev pub IsLocation : ModRef → LocId → Location → Type 0
IsLocation mr n x = slice_get mr.locations n.0 ≡ Some x

-- the node defines the location at a pc of the method
pub data DefinesNumber (p : Program) (s : System) (mr : ModRef) (entries : List MethodId) (m : MethodId) (pc : ℕ) (n : LocId) : NodeNumber → Type 0 where
  by_touch : {x : Location} (spot : Spot) → IsLocation mr n x → Contains s.touches (record { place = at m pc; write = true; spot = spot }) →
      IsSpotAt s spot x → DefinesNumber p s mr entries m pc n (Own pc)
  by_call : (c : CallId) {k : CallSite} {r : OutsideRule} {b : SiteId} {f : FieldId} → IsLocation mr n (Cell b f) → IsCallOf s (at m pc) c k →
      slice_get s.outside_rules c.0 ≡ Some r →
      Writes (SystemHolds s) c k.instance r (ArgumentHas s (SystemHolds s) k) (IsState s) (IsElements s) b f →
      DefinesNumber p s mr entries m pc n (Own pc)
  -- the length and the elements of each array that the call answers afresh
  by_result : {c : CallId} {k : CallSite} (o : Option SiteId) {first h : SiteId} {f : FieldId} {info : SiteInfo} → IsLocation mr n (Cell h f) →
      IsCallOf s (at m pc) c k → SystemHolds s (OutsideAt c o) → k.fresh ≡ Some first → IsSite s h info → info.place ≡ k.place → info.array ≡ true →
      (f ≡ length_field s) ⊎ (f ≡ elements_field s) → DefinesNumber p s mr entries m pc n (Result pc)
  by_callee : IsNumbered p s mr entries m (HeapResult pc n) → DefinesNumber p s mr entries m pc n (HeapResult pc n)

-- the node uses the location at a pc of the method
pub data UsesNumber (p : Program) (s : System) (mr : ModRef) (entries : List MethodId) (m : MethodId) (pc : ℕ) (n : LocId) : NodeNumber → Type 0 where
  by_touch : {x : Location} (spot : Spot) → IsLocation mr n x → Contains s.touches (record { place = at m pc; write = false; spot = spot }) →
      IsSpotAt s spot x → UsesNumber p s mr entries m pc n (Own pc)
  by_call : (c : CallId) {k : CallSite} {r : OutsideRule} {b : SiteId} {f : FieldId} → IsLocation mr n (Cell b f) → IsCallOf s (at m pc) c k →
      slice_get s.outside_rules c.0 ≡ Some r →
      OneMayBe (SystemHolds s) c k.instance r (ArgumentHas s (SystemHolds s) k) (IsState s) r.written b → IsState s b f →
      UsesNumber p s mr entries m pc n (Own pc)
  by_result : (c : CallId) {k : CallSite} {r : OutsideRule} {b : SiteId} {f : FieldId} → IsLocation mr n (Cell b f) → IsCallOf s (at m pc) c k →
      slice_get s.outside_rules c.0 ≡ Some r →
      Reads (SystemHolds s) c k.instance r (ArgumentHas s (SystemHolds s) k) (IsState s) b f →
      UsesNumber p s mr entries m pc n (Result pc)
  by_callee : IsNumbered p s mr entries m (HeapArg pc n) → UsesNumber p s mr entries m pc n (HeapArg pc n)

-- What it means that a place has a number.
use Rattle.std.specs.Prelude.{◌≡◌, ℕ, Option, Some, None, slice_get}
use Rattle.dep_form.specs.declared.call_site.CallSite.{CallSite}
use Rattle.dep_form.specs.declared.rules.OutsideRule.{OutsideRule}
use Rattle.dep_form.specs.declared.system.System.{System}
use Rattle.dep_form.specs.PointsTo.{Reached, Has, Cell as Holds, Calls, OutsideAt, Gives}
use Rattle.dep_form.specs.Constraints.{SystemFact, SystemHolds, IsCallSite, ArgumentHas, IsState}
use Rattle.slicer_ids.specs.declared.ids.CallId.{CallId}
use Rattle.points_to.specs.declared.place.Place.{Place}
use Rattle.points_to.specs.declared.place.Place.TheVariants.{Variable, Cell, Targets, Receivers, Static, Written, Running}
use Rattle.points_to.specs.Items.{Item, At}
use Rattle.points_to.specs.Rules.{site, method}

-- the item of a fact
abbrev pub coded : SystemFact → Item
coded (Reached m) = At Running m.0
coded (Has v h) = At (Variable v) h.0
coded (Holds o f h) = At (Cell o f) h.0
coded (Calls c t) = At (Targets c) t.0
coded (OutsideAt c (Some h)) = At (Receivers c) h.0
coded (OutsideAt c None) = At (Static c) 0

-- the call writes the site
abbrev pub IsWrittenBy : (s : System) (K : SystemFact → Type 0) → CallId → ℕ → Type 0
IsWrittenBy s K c n =
    (k : CallSite) × (r : OutsideRule) × IsCallSite s c k × (slice_get s.outside_rules c.0 ≡ Some r)
    × Gives K c k.instance r (ArgumentHas s K k) (IsState s) r.written (site n)

-- the fact that an item stands for is in K
abbrev pub Means : (s : System) (K : SystemFact → Type 0) → Item → Type 0
Means s K (At (Variable v) n) = K (Has v (site n))
Means s K (At (Cell o f) n) = K (Holds o f (site n))
Means s K (At (Targets c) n) = K (Calls c (method n))
Means s K (At (Receivers c) n) = K (OutsideAt c (Some (site n)))
Means s K (At (Static c) n) = K (OutsideAt c None)
Means s K (At (Written c) n) = IsWrittenBy s K c n
Means s K (At Running n) = K (Reached (method n))

-- .. has a derivation
abbrev pub MeansTrue : System → Item → Type 0
MeansTrue s = Means s (SystemHolds s)

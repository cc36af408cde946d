-- What a system keeps of the parts that effects are read from: the numbers in them are those of something.
use Rattle.std.proofs.Common.{◌≡◌, ◌<◌, ℕ, List, length, get_or, Some, subst}
use Rattle.std.specs.Prelude.{All, slice_get}
use Rattle.std.proofs.lemmas.Option.{slice_get-get_or}
use Rattle.std.proofs.Math.Logic.{∥∥₁_elim}
use Rattle.std.proofs.Props.{props}
use Rattle.slicer_ids.specs.declared.ids.Statement.{Statement}
use Rattle.dep_form.specs.declared.call_site.CallSite.{CallSite}
use Rattle.dep_form.specs.declared.rules.OutsideRule.{OutsideRule}
use Rattle.dep_form.specs.declared.rules.Spot.{Spot}
use Rattle.dep_form.specs.declared.rules.Spot.TheVariants.{Field, Made, Static}
use Rattle.dep_form.specs.declared.rules.Touch.{Touch}
use Rattle.dep_form.specs.declared.rules.Var.{Var}
use Rattle.dep_form.specs.declared.system.System.{System}
use Rattle.dep_form.specs.Within.{Counts, IfPlace, IsRuleOf, IsVar, IsWithinCall, IsWithinSpot}
use Rattle.dep_form.proofs.Searching.{all_at}
use Rattle.mod_ref.specs.Direct.{IsWithinTouch, counts}

spot_prop : (n : Counts) (t : Spot) → IsProp (IsWithinSpot n t)
spot_prop n (Field vs f) = let h : IsProp (All (IsVar n) vs × (f.0 < n.fields)) = (hlevel props) in h
spot_prop n (Made h f) = let p : IsProp ((h.0 < n.sites) × (f.0 < n.fields)) = (hlevel props) in p
spot_prop n (Static v) = let h : IsProp (v.0 < n.vars) = (hlevel props) in h

pub touch_method : (s : System) (k : ℕ) (t : Touch) → slice_get s.touches k ≡ Some t → t.place.method.0 < length s.methods
touch_method s k t at = ∥∥₁_elim s.within (hlevel props) (λ w. (all_at (λ (x : Touch). (x.place.method.0 < length s.methods) × IsWithinSpot (counts s) x.spot) s.touches w.4 k t at).0)

touch_spot : (s : System) (k : ℕ) (t : Touch) → slice_get s.touches k ≡ Some t → IsWithinSpot (counts s) t.spot
touch_spot s k t at = ∥∥₁_elim s.within (spot_prop (counts s) t.spot) (λ w. (all_at (λ (x : Touch). (x.place.method.0 < length s.methods) × IsWithinSpot (counts s) x.spot) s.touches w.4 k t at).1)

-- a touch is of a method, and its spot names what is there
pub touch_within : (s : System) (k : ℕ) (t : Touch) → slice_get s.touches k ≡ Some t → IsWithinTouch s t
touch_within s k t at = (touch_method s k t at, touch_spot s k t at)

pub touches_within : (s : System) → All (IsWithinTouch s) s.touches
touches_within s = λ k d lt. touch_within s k (get_or s.touches k d) (slice_get-get_or s.touches k d lt)

-- a call with a place is of a method
pub place_within : (s : System) (k : ℕ) (c : CallSite) (t : Statement) → slice_get s.calls k ≡ Some c → c.place ≡ Some t → t.method.0 < length s.methods
place_within s k c t at is = ∥∥₁_elim s.within (hlevel props) (λ w. subst (IfPlace (counts s)) is (all_at (IsWithinCall (counts s)) s.calls w.1 k c at).0)

-- the arguments that a rule names are arguments of the call
pub rule_of : (s : System) (k : ℕ) (c : CallSite) (r : OutsideRule) → slice_get s.calls k ≡ Some c → slice_get s.outside_rules k ≡ Some r → IsRuleOf c r
rule_of s k c r at rule = ∥∥₁_elim s.within (hlevel props) (λ w. w.6 k c r at rule)

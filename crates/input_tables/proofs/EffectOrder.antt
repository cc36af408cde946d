-- The orders of locations and of effects.
use Rattle.std.proofs.Common.{◌≡◌, ◌⊎◌, ◌<◌, ◌≤◌, ℕ, Bool, List, AllPairs, get_or, inl, inr, refl, sym, ap, ◌∙◌, arith}
use Rattle.std.specs.declared.cmp.Ordering.{Ordering}
use Rattle.std.specs.declared.cmp.Ordering.TheVariants.{Less, Equal, Greater}
use Rattle.std.specs.Ordering.{nat_cmp, ordering_then, MatchOrdering}
use Rattle.std.specs.Cmp.{nat_cmp_is}
use Rattle.std.specs.List.Sorted.{IsNonDecreasingBy}
use Rattle.std.proofs.lemmas.Bool.{cases_lt}
use Rattle.std.proofs.lemmas.Cmp.{ranked}
use Rattle.slicer_ids.specs.declared.ids.LocId.{LocId}
use Rattle.slicer_ids.specs.declared.ids.SiteId.{SiteId}
use Rattle.slicer_ids.specs.declared.ids.Statement.{Statement}
use Rattle.dep_form.specs.declared.effects.Location.{Location}
use Rattle.dep_form.specs.declared.effects.Location.TheVariants.{Cell, Static}
use Rattle.dep_form.specs.Effects.{LocationBefore}
use Rattle.dep_form.specs.Orders.{RiseBy, statement_cmp}
use Rattle.dep_form.proofs.Searching.{one_statement}
use Rattle.worklist.proofs.Orders.{nat_equal}
use Rattle.mod_ref.specs.Locations.{location_cmp}
use Rattle.mod_ref.proofs.Sorting.{IsExactOrder}
use Rattle.node_tables.proofs.Calls.{compares_equal}
use Rattle.input_tables.specs.declared.effects.Effect.{Effect}
use Rattle.input_tables.specs.contracts.effects.EffectOrd.TheImpl as of_effect
use Rattle.input_tables.specs.contracts.effects.EffectPartialEq.TheImpl as tested_effect
use Rattle.input_tables.specs.Effects.{effect_cmp}

-- ---- locations
before_less : (a b : Location) → LocationBefore a b → location_cmp a b ≡ Less
before_less (Cell a f) (Cell b g) (inl lt) = ap (λ (o : Ordering). ordering_then o (nat_cmp f.0 g.0)) (sym (nat_cmp_is a.0 b.0 Less lt))
before_less (Cell a f) (Cell b g) (inr (e, lt)) =
    ap (λ (o : Ordering). ordering_then o (nat_cmp f.0 g.0)) (compares_equal a.0 b.0 (ap (λ (h : SiteId). h.0) e)) ∙ sym (nat_cmp_is f.0 g.0 Less lt)
before_less (Cell a f) (Static w) h = refl
before_less (Static v) (Cell b g) h = absurd h
before_less (Static v) (Static w) lt = sym (nat_cmp_is v.0 w.0 Less lt)

pub locations_rise : (xs : List Location) → AllPairs LocationBefore xs → RiseBy location_cmp (λ l. l) xs
locations_rise xs h = λ i j d lt within. before_less (get_or xs i d) (get_or xs j d) (h i j d lt within)

-- ---- effects
abbrev pub effect_eq : Effect → Effect → Bool
effect_eq = (tested_effect.ghosts).eq

both_equal : (o p : Ordering) → ordering_then o p ≡ Equal → (o ≡ Equal) × (p ≡ Equal)
both_equal Less p e = absurd cc
both_equal Equal p e = (refl, e)
both_equal Greater p e = absurd cc

pub effect_is : (a b : Effect) → a.at ≡ b.at → a.location ≡ b.location → a ≡ b
effect_is a b p q = rw (← p, ← q) refl

effect_equal : (a b : Effect) → effect_cmp a b ≡ Equal → a ≡ b
effect_equal a b h =
    let same = both_equal (statement_cmp a.at b.at) (nat_cmp a.location.0 b.location.0) h in
    effect_is a b (one_statement a.at b.at same.0) (ap (λ (n : ℕ). record { 0 = n }) (nat_equal a.location.0 b.location.0 same.1))

pub effects_exact : IsExactOrder effect_eq effect_cmp
effects_exact = record { total = of_effect.Laws.total-law; ties = of_effect.Laws.matches_eq-law; exact = effect_equal }

by_first : (r o p : Ordering) (x y : ℕ) → MatchOrdering r (x < y) (x ≡ y) (y < x) → ordering_then (ordering_then r o) p ≡ Less → x ≤ y
by_first Less o p x y m e = omega (arith, m)
by_first Equal o p x y m e = omega (arith, m)
by_first Greater o p x y m e = absurd cc

method_rises : (a b : Effect) → effect_cmp a b ≡ Less → a.at.method.0 ≤ b.at.method.0
method_rises a b e =
    by_first (nat_cmp a.at.method.0 b.at.method.0) (nat_cmp a.at.pc b.at.pc) (nat_cmp a.location.0 b.location.0) a.at.method.0 b.at.method.0 (ranked a.at.method.0 b.at.method.0 (nat_cmp a.at.method.0 b.at.method.0) refl) e

-- the methods of effects in order don't fall
pub by_method : (xs : List Effect) → RiseBy effect_cmp (λ x. x) xs → IsNonDecreasingBy (λ (x : Effect). x.at.method.0) xs
by_method xs order i j d le inside = elim (cases_lt i j) [
  | inl lt ↦ method_rises (get_or xs i d) (get_or xs j d) (order i j d lt inside)
  | inr ge ↦ let e : i ≡ j = omega (arith, le, ge) in omega (arith, ap (λ (k : ℕ). (get_or xs k d).at.method.0) e)
]

-- The orders of locations and of effects.
use Rattle.std.proofs.Common.{◌≡◌, ◌<◌, ℕ, Bool, true, List, [], ◌∷◌, AllPairs, ◌⊎◌, inl, inr, refl, sym, ap, ◌∙◌, arith}
use Rattle.std.specs.declared.cmp.Ordering.{Ordering}
use Rattle.std.specs.declared.cmp.Ordering.TheVariants.{Less, Equal, Greater}
use Rattle.std.specs.Ordering.{nat_cmp, ordering_then, eq_by_cmp}
use Rattle.std.specs.Cmp.{IsTotalOrder, IsEquivalence}
use Rattle.std.specs.List.Sorted.{IsStrictlySortedBy}
use Rattle.std.proofs.lemmas.Cmp.{eq_by_cmp_equiv}
use Rattle.std.proofs.lemmas.List.Elements.{All-from_recursion, All-weaker}
use Rattle.std.proofs.lemmas.List.Kept.{AllPairs-cons}
use Rattle.slicer_ids.specs.declared.ids.FieldId.{FieldId}
use Rattle.slicer_ids.specs.declared.ids.MethodId.{MethodId}
use Rattle.slicer_ids.specs.declared.ids.SiteId.{SiteId}
use Rattle.slicer_ids.specs.declared.ids.Statement.{Statement}
use Rattle.slicer_ids.specs.contracts.ids.StatementOrd.TheImpl as of_statement
use Rattle.slicer_ids.specs.contracts.ids.StatementPartialEq.TheImpl as tested_statement
use Rattle.dep_form.specs.Orders.{statement_cmp}
use Rattle.dep_form.proofs.Searching.{one_statement, statement_total}
use Rattle.mod_ref.proofs.Sorting.{IsExactOrder}
use Rattle.dep_form.specs.declared.rules.Var.{Var}
use Rattle.dep_form.specs.declared.effects.Location.{Location}
use Rattle.dep_form.specs.declared.effects.Location.TheVariants.{Cell, Static}
use Rattle.dep_form.specs.contracts.effects.LocationOrd.TheImpl as of_location
use Rattle.dep_form.specs.contracts.effects.LocationPartialEq.TheImpl as tested_location
use Rattle.dep_form.specs.Effects.{LocationBefore}
use Rattle.worklist.proofs.Orders.{then_less, then_equal, nat_less, nat_equal, if_is_eq}
use Rattle.mod_ref.specs.Locations.{location_cmp, location_eq}
use Rattle.mod_ref.specs.declared.effects.Effect.{Effect}
use Rattle.mod_ref.specs.contracts.effects.EffectOrd.TheImpl as of_effect
use Rattle.mod_ref.specs.contracts.effects.EffectPartialEq.TheImpl as tested_effect

-- ---- locations
pub location_less : (a b : Location) → location_cmp a b ≡ Less → LocationBefore a b
location_less (Cell a f) (Cell b g) h = elim (then_less a.0 b.0 (nat_cmp f.0 g.0) h) [
  | inl lt ↦ inl lt
  | inr same ↦ inr (ap (λ (n : ℕ). record { 0 = n }) same.0, nat_less f.0 g.0 same.1)
]
location_less (Cell a f) (Static w) h = tt
location_less (Static v) (Cell b g) h = absurd cc
location_less (Static v) (Static w) h = nat_less v.0 w.0 h

cell_is : (a b : SiteId) (f g : FieldId) → a ≡ b → f ≡ g → Cell a f ≡ Cell b g
cell_is a b f g p q = rw (← p, ← q) refl

pub location_equal : (a b : Location) → location_cmp a b ≡ Equal → a ≡ b
location_equal (Cell a f) (Cell b g) h =
    let same = then_equal a.0 b.0 (nat_cmp f.0 g.0) h in
    cell_is a b f g (ap (λ (n : ℕ). record { 0 = n }) same.0) (ap (λ (n : ℕ). record { 0 = n }) (nat_equal f.0 g.0 same.1))
location_equal (Cell a f) (Static w) h = absurd cc
location_equal (Static v) (Cell b g) h = absurd cc
location_equal (Static v) (Static w) h = ap (λ (n : ℕ). Static (record { 0 = n })) (nat_equal v.0 w.0 h)

pub locations_exact : IsExactOrder location_eq location_cmp
locations_exact = record { total = of_location.Laws.total-law; ties = of_location.Laws.matches_eq-law; exact = location_equal }

-- ---- effects
abbrev pub effect_cmp : Effect → Effect → Ordering
effect_cmp = (of_effect.ghosts).cmp

abbrev pub effect_eq : Effect → Effect → Bool
effect_eq = (tested_effect.ghosts).eq

both_equal : (o p : Ordering) → ordering_then o p ≡ Equal → (o ≡ Equal) × (p ≡ Equal)
both_equal Less p e = absurd cc
both_equal Equal p e = (refl, e)
both_equal Greater p e = absurd cc

pub effect_is : (a b : Effect) → a.location ≡ b.location → a.method ≡ b.method → a ≡ b
effect_is a b p q = rw (← p, ← q) refl

effect_equal : (a b : Effect) → effect_cmp a b ≡ Equal → a ≡ b
effect_equal a b h =
    let same = both_equal (location_cmp a.location b.location) (nat_cmp a.method.0 b.method.0) h in
    effect_is a b (location_equal a.location b.location same.0) (ap (λ (n : ℕ). record { 0 = n }) (nat_equal a.method.0 b.method.0 same.1))

pub effects_exact : IsExactOrder effect_eq effect_cmp
effects_exact = record { total = of_effect.Laws.total-law; ties = of_effect.Laws.matches_eq-law; exact = effect_equal }

-- ---- statements
abbrev statement_eq : Statement → Statement → Bool
statement_eq = (tested_statement.ghosts).eq

pub statements_exact : IsExactOrder statement_eq statement_cmp
statements_exact = record { total = statement_total; ties = of_statement.Laws.matches_eq-law; exact = one_statement }

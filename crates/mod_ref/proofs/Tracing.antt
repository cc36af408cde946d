-- The locations that are in both parts are the traced ones.
use Rattle.std.proofs.Common.{◌≡◌, ◌≢◌, ◌↔◌, ◌<◌, ℕ, List, All, AllPairs, Contains, length, get_or, refl, sym, ap, subst, ◌∙◌}
use Rattle.std.specs.declared.cmp.Ordering.{Ordering}
use Rattle.std.specs.declared.cmp.Ordering.TheVariants.{Less, Equal}
use Rattle.std.proofs.lemmas.Cmp.{tied_itself}
use Rattle.std.proofs.lemmas.List.Elements.{Contains-get_or}
use Rattle.slicer_ids.specs.Sets.{IsListOf, IsOrderedListOf}
use Rattle.slicer_ids.specs.declared.ids.MethodId.{MethodId}
use Rattle.dep_form.specs.declared.effects.Location.{Location}
use Rattle.dep_form.specs.declared.system.System.{System}
use Rattle.dep_form.specs.Effects.{DefinedIn, IsTraced, LocationBefore, UsedIn}
use Rattle.dep_form.specs.Orders.{RiseBy}
use Rattle.mod_ref.specs.Locations.{IsLocationOf, location_cmp, location_eq}
use Rattle.mod_ref.specs.Traced.{AreDefinitions, AreUses}
use Rattle.mod_ref.specs.declared.effects.Effect.{Effect}
use Rattle.mod_ref.proofs.Orders.{location_less, locations_exact}

located : (D : MethodId → Location → Type 0) (effects : List Effect) → ((x : Effect) → Contains effects x ↔ D x.method x.location) → (l : Location) → IsLocationOf effects l ↔ ((m : MethodId) × D m l)
located D effects is l = (
  λ (x, there, e). (x.method, subst (D x.method) e ((is x).0 there)),
  λ (m, d). (record { location = l; method = m }, (is (record { location = l; method = m })).1 d, refl),
)

pub traced_is : (s : System) (defined used : List Effect) → AreDefinitions s defined → AreUses s used → (l : Location) → (IsLocationOf defined l × IsLocationOf used l) ↔ IsTraced s l
traced_is s defined used d u l = (
  λ (a, b). ((located (DefinedIn s) defined d l).0 a, (located (UsedIn s) used u l).0 b),
  λ (a, b). ((located (DefinedIn s) defined d l).1 a, (located (UsedIn s) used u l).1 b),
)

each_of : {A : Type 0} (xs : List A) (P : A → Type 0) → ((x : A) → Contains xs x ↔ P x) → All P xs
each_of xs P is k d lt = (is (get_or xs k d)).0 (Contains-get_or xs k d lt)

pub ordered : (xs : List Location) (P : Location → Type 0) → RiseBy location_cmp (λ l. l) xs → ((l : Location) → Contains xs l ↔ P l) → IsOrderedListOf LocationBefore xs P
ordered xs P rise is = record {
  each = each_of xs P is;
  order = λ i j d lt within. location_less (get_or xs i d) (get_or xs j d) (rise i j d lt within);
  whole = λ l p. (is l).1 p;
}

apart : (a b : Location) → location_cmp a b ≡ Less → a ≢ b
apart a b less e =
    let tied : location_cmp a b ≡ Equal = subst (λ (c : Location). location_cmp a c ≡ Equal) e (tied_itself locations_exact.total a) in
    cc (sym less ∙ tied)

pub once_each : (xs : List Location) (P : Location → Type 0) → RiseBy location_cmp (λ l. l) xs → ((l : Location) → Contains xs l ↔ P l) → IsListOf xs P
once_each xs P rise is = record {
  each = each_of xs P is;
  once = λ i j d lt within. apart (get_or xs i d) (get_or xs j d) (rise i j d lt within);
  whole = λ l p. (is l).1 p;
}

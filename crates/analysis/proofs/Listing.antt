-- Lists in order have each item once.
use Rattle.std.proofs.Common.{◌≡◌, ◌≢◌, ◌<◌, ℕ, List, length, get_or, refl, sym, subst, inl, inr, arith}
use Rattle.slicer_ids.specs.Sets.{IsOrderedListOf, IsListOf}
use Rattle.slicer_ids.specs.Order.{StatementBefore}
use Rattle.slicer_ids.specs.declared.ids.Statement.{Statement}
use Rattle.constraint_form.proofs.SiteNumbers.{statement_asym}
use Rattle.dep_form.specs.declared.effects.Location.{Location as SystemLocation}
use Rattle.dep_form.specs.declared.effects.Location.TheVariants.{Cell, Static}
use Rattle.dep_form.specs.Effects.{LocationBefore}
use Rattle.dep_form.specs.Summaries.{HasSize}
use Rattle.program_form.specs.Sites.{Site, Made, OfRoot, SiteBefore}

pub each_once : {A : Type 0} (R : A → A → Type 0) (P : A → Type 0) (xs : List A) → ((x : A) → R x x → ⊥) → IsOrderedListOf R xs P → IsListOf xs P
each_once {A} R P xs never o = record {
  each = o.each;
  once = λ i j d lt within e. never (get_or xs j d) (subst (λ (z : A). R z (get_or xs j d)) e (o.order i j d lt within));
  whole = o.whole;
}

pub size_of : {A : Type 0} (R : A → A → Type 0) (P : A → Type 0) (xs : List A) → ((x : A) → R x x → ⊥) → IsOrderedListOf R xs P → HasSize P (length xs)
size_of R P xs never o = (xs, each_once R P xs never o, refl)

pub no_site_before_itself : (h : Site) → SiteBefore h h → ⊥
no_site_before_itself (Made s k) (inl before) = statement_asym s s before before
no_site_before_itself (Made s k) (inr w) = omega (arith, w.1)
no_site_before_itself (OfRoot k) lt = omega (arith, lt)

pub no_location_before_itself : (x : SystemLocation) → LocationBefore x x → ⊥
no_location_before_itself (Cell n i) (inl lt) = omega (arith, lt)
no_location_before_itself (Cell n i) (inr w) = omega (arith, w.1)
no_location_before_itself (Static v) lt = omega (arith, lt)

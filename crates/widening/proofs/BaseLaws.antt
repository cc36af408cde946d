-- The edges of a list but for the base edges.
use Rattle.std.proofs.Common.{◌≡◌, ◌⊎◌, suc, Bool, true, false, cond, List, [], ◌∷◌, Contains, inl, inr, refl, sym, ap, subst, ◌∙◌, arith}
use Rattle.std.specs.Prelude.{◌↔◌}
use Rattle.std.specs.List.{filter}
use Rattle.std.proofs.lemmas.List.Elements.{All-contains, All-contains_itself, All-filter, filter_passes}
use Rattle.slicer_ids.proofs.Ordered.{Contains-cons_cases}
use Rattle.dep_form.specs.declared.node.Edge.{Edge}
use Rattle.dep_form.specs.declared.node.Label.{Label}
use Rattle.dep_form.specs.declared.node.Label.TheVariants.{Thin, Base, Call, Return}
use Rattle.widening.specs.Edges.{no_base}

module _ {A : Type 0} (test : A → Bool) where
  -- what passes the test is kept: by whether the first item passes it
  first_or : (b : Bool) (x z : A) (ys : List A) → (x ≡ z → b ≡ true) → (x ≡ z) ⊎ Contains ys z → Contains (cond b (x ∷ ys) ys) z
  first_or true x z ys f (inl e) = (0, omega arith, e)
  first_or true x z ys f (inr c) = (suc c.0, omega (arith, c.1), c.2)
  first_or false x z ys f (inl e) = let no_test : false ≡ true = f e in absurd cc
  first_or false x z ys f (inr c) = c

  pub kept_in : (xs : List A) (z : A) → test z ≡ true → Contains xs z → Contains (filter test xs) z
  kept_in [] z t c = absurd (omega (arith, c.1))
  kept_in (x ∷ xs) z t c = first_or (test x) x z (filter test xs) (λ e. ap test e ∙ t) (elim (Contains-cons_cases x z xs c) [ inl e ↦ inl e | inr more ↦ inr (kept_in xs z t more) ])

  pub kept_from : (xs : List A) (z : A) → Contains (filter test xs) z → Contains xs z × (test z ≡ true)
  kept_from xs z c = (
    All-contains (Contains xs) (filter test xs) z (All-filter test (Contains xs) xs (All-contains_itself xs)) c,
    All-contains (λ (y : A). test y ≡ true) (filter test xs) z (filter_passes test xs) c,
  )

abbrev pub stays : Edge → Bool
stays e = no_base e.label

is_no_base : (l : Label) → no_base l ≡ true → l ≡ Base → ⊥
is_no_base Base t e = let no_test : false ≡ true = t in absurd cc
is_no_base Thin t e = absurd cc
is_no_base (Call k) t e = absurd cc
is_no_base (Return k) t e = absurd cc

from_no_base : (l : Label) → (l ≡ Base → ⊥) → no_base l ≡ true
from_no_base Base never = absurd (never refl)
from_no_base Thin never = refl
from_no_base (Call k) never = refl
from_no_base (Return k) never = refl

pub without_bases : (es left : List Edge) → left ≡ filter stays es → (e : Edge) → Contains left e ↔ (Contains es e × (e.label ≡ Base → ⊥))
without_bases es left is e = (
  λ c. let r = kept_from stays es e (subst (λ (xs : List Edge). Contains xs e) is c) in (r.0, is_no_base e.label r.1),
  λ h. subst (λ (xs : List Edge). Contains xs e) (sym is) (kept_in stays es e (from_no_base e.label h.1) h.0),
)

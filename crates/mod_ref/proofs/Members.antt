-- The members of a list in order, and the item at a place.
use Rattle.std.proofs.Common.{◌≡◌, ◌↔◌, ◌<◌, ℕ, true, false, nat_eq, List, [], ◌∷◌, Some, Contains, length, get_or, refl, sym, ap, ◌∙◌, arith}
use mathlib.Core.Bool.{Bool, beq}
use Rattle.std.specs.Prelude.{slice_get}
use Rattle.std.proofs.lemmas.Bool.Decides.{Decides-eqb}
use Rattle.std.proofs.lemmas.List.Elements.{All-contains}
use Rattle.std.proofs.lemmas.Option.{slice_get-get_or}
use Rattle.slicer_ids.specs.Sets.{IsOrderedListOf}

pub members : {A : Type 0} (B : A → A → Type 0) (xs : List A) (P : A → Type 0) → IsOrderedListOf B xs P → (x : A) → Contains xs x ↔ P x
members B xs P h x = (λ c. All-contains P xs x h.each c, λ p. h.whole x p)

-- what was read by an index is the item there
pub read : {A : Type 0} (xs ys : List A) (k : ℕ) (x y : A) → ys ≡ xs → k < length xs → x ≡ get_or ys k x → y ≡ x → slice_get xs k ≡ Some y
read {A} xs ys k x y same lt at is = slice_get-get_or xs k x lt ∙ ap (λ (z : A). Some z) (ap (λ (zs : List A). get_or zs k x) (sym same) ∙ sym at ∙ sym is)

-- a list that isn't empty has an element
pub some_element : {A : Type 0} (xs : List A) → nat_eq (length xs) 0 ≡ false → (x : A) × Contains xs x
some_element [] h = absurd (cc h)
some_element (x ∷ xs) h = (x, (0, omega arith, refl))

pub no_element : {A : Type 0} (xs : List A) (x : A) → nat_eq (length xs) 0 ≡ true → Contains xs x → ⊥
no_element [] x h c = omega (arith, c.1)
no_element (y ∷ xs) x h c = absurd (omega (arith, (Decides-eqb (length (y ∷ xs)) 0).0 h))

pub same_bool : (a b : Bool) → beq a b ≡ true → a ≡ b
same_bool true true h = refl
same_bool true false h = absurd (cc h)
same_bool false true h = absurd (cc h)
same_bool false false h = refl

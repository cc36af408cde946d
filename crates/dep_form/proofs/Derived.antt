-- What follows from facts with derivations has a derivation: the derivations are put one after another.
use Rattle.std.proofs.Common.{List, [], ◌∷◌, ◌++◌, inl, inr, refl, subst, arith}
use Rattle.std.specs.Prelude.{Contains}
use Rattle.std.proofs.lemmas.List.Elements.{Contains-append_left, Contains-append_right}
use Rattle.slicer_ids.specs.Derivations.{IsDerivation, HasDerivation}
use Rattle.slicer_ids.proofs.Ordered.{Contains-cons_cases}

-- K holds of each of these facts
abbrev pub AllHold : {F : Type 0} → (F → Type 0) → List F → Type 0
AllHold K [] = Unit {0}
AllHold K (f ∷ fs) = K f × AllHold K fs

pub first : {F : Type 0} (f : F) (fs : List F) → Contains (f ∷ fs) f
first f fs = (0, omega arith, refl)

pub second : {F : Type 0} (e f : F) (fs : List F) → Contains (e ∷ f ∷ fs) f
second e f fs = (1, omega arith, refl)

pub in_rest : {F : Type 0} (f : F) (fs : List F) (g : F) → Contains fs g → Contains (f ∷ fs) g
in_rest f fs g c = Contains-append_right (f ∷ []) fs g c

-- P can be had from finitely many facts of K
abbrev pub FromSome : {F : Type 0} → (F → Type 0) → ((F → Type 0) → Type 0) → Type 0
FromSome {F} K P = (fs : List F) × AllHold K fs × P (Contains fs)

pub both_hold : {F : Type 0} (K : F → Type 0) (xs ys : List F) → AllHold K xs → AllHold K ys → AllHold K (xs ++ ys)
both_hold K [] ys a b = b
both_hold K (x ∷ xs) ys a b = (a.0, both_hold K xs ys a.1 b)

-- the rules, where what follows from some facts follows from more
module _ {F : Type 0} (Rule : (F → Type 0) → F → Type 0) (wider : (K L : F → Type 0) → ((g : F) → K g → L g) → (f : F) → Rule K f → Rule L f) where
  both_derived : (xs ys : List F) → IsDerivation Rule xs → IsDerivation Rule ys → IsDerivation Rule (xs ++ ys)
  both_derived [] ys d e = e
  both_derived (x ∷ xs) ys d e = (wider (Contains xs) (Contains (xs ++ ys)) (λ g c. Contains-append_left xs ys g c) x d.0, both_derived xs ys d.1 e)

  -- one derivation has all of these
  one_derivation : (gs : List F) → AllHold (HasDerivation Rule) gs → (fs : List F) × IsDerivation Rule fs × ((g : F) → Contains gs g → Contains fs g)
  one_derivation [] a = ([], tt, λ g c. c)
  one_derivation (x ∷ gs) a =
      let rest = one_derivation gs a.1 in (
        a.0.0 ++ rest.0,
        both_derived a.0.0 rest.0 a.0.1 rest.1,
        λ g c. elim (Contains-cons_cases x g gs c) [
          | inl e ↦ Contains-append_left a.0.0 rest.0 g (subst (Contains a.0.0) e a.0.2)
          | inr d ↦ Contains-append_right a.0.0 rest.0 g (rest.2 g d)
        ],
      )

  pub derived : (f : F) → FromSome (HasDerivation Rule) (λ K. Rule K f) → HasDerivation Rule f
  derived f r =
      let d = one_derivation r.0 r.1 in
      (f ∷ d.0, (wider (Contains r.0) (Contains d.0) d.2 f r.2, d.1), (0, omega arith, refl))

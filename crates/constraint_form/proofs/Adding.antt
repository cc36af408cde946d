-- Facts that can be added to any derivation: what follows from them can.
use Rattle.std.proofs.Common.{List, [], ◌∷◌, Contains, refl, arith}
use Rattle.slicer_ids.specs.Derivations.{IsDerivation, HasDerivation}
use Rattle.class_form.proofs.Indices.{later}

-- P stays where there are more facts
abbrev pub Widens : {F : Type 0} → ((F → Type 0) → Type 0) → Type 1
Widens {F} P = (K L : F → Type 0) → ((g : F) → K g → L g) → P K → P L

-- each derivation can be gone on with until P is of its facts
abbrev pub Extends : {F : Type 0} → ((F → Type 0) → F → Type 0) → ((F → Type 0) → Type 0) → Type 0
Extends {F} R P = (base : List F) → IsDerivation R base → (fs : List F) × IsDerivation R fs × ((g : F) → Contains base g → Contains fs g) × P (Contains fs)

-- .. until it has the fact
abbrev pub Adds : {F : Type 0} → ((F → Type 0) → F → Type 0) → F → Type 0
Adds R f = Extends R (λ K. K f)

module _ {F : Type 0} (R : (F → Type 0) → F → Type 0) where
  pub adds_holds : (f : F) → Adds R f → HasDerivation R f
  adds_holds f a = let x = a [] tt in (x.0, x.1, x.3)

  pub both : (P Q : (F → Type 0) → Type 0) → Widens P → Extends R P → Extends R Q → Extends R (λ K. P K × Q K)
  both P Q w a b = λ base d.
      let x = a base d in
      let y = b x.0 x.1 in
      (y.0, y.1, λ g c. y.2 g (x.2 g c), (w (Contains x.0) (Contains y.0) y.2 x.3, y.3))

  -- what follows by a rule from such premises
  pub made : (P : (F → Type 0) → Type 0) (f : F) → Extends R P → ((K : F → Type 0) → P K → R K f) → Adds R f
  made P f a rule = λ base d.
      let x = a base d in
      (f ∷ x.0, (rule (Contains x.0) x.3, x.1), λ g c. later f g x.0 (x.2 g c), (0, omega arith, refl))

  pub made0 : {f : F} → ((K : F → Type 0) → R K f) → Adds R f
  made0 {f} rule = λ base d. (f ∷ base, (rule (Contains base), d), λ g c. later f g base c, (0, omega arith, refl))

  pub made1 : {a f : F} → Adds R a → ((K : F → Type 0) → K a → R K f) → Adds R f
  made1 {a} {f} x rule = made (λ K. K a) f x rule

  pub made2 : {a b f : F} → Adds R a → Adds R b → ((K : F → Type 0) → K a → K b → R K f) → Adds R f
  made2 {a} {b} {f} x y rule = made (λ K. K a × K b) f (both (λ K. K a) (λ K. K b) (λ K L w k. w a k) x y) (λ K k. rule K k.0 k.1)

  pub made3 : {a b c f : F} → Adds R a → Adds R b → Adds R c → ((K : F → Type 0) → K a → K b → K c → R K f) → Adds R f
  made3 {a} {b} {c} {f} x y z rule =
      made (λ K. K a × (K b × K c)) f (both (λ K. K a) (λ K. K b × K c) (λ K L w k. w a k) x (both (λ K. K b) (λ K. K c) (λ K L w k. w b k) y z)) (λ K k. rule K k.0 k.1.0 k.1.1)

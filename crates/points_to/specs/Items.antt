-- What follows from what, where facts are numbers that places have: words of which rules are made.
use Rattle.std.specs.Prelude.{◌≡◌, ◌⊎◌, ◌<◌, ℕ, List, [], ◌∷◌, Option, Some, None, Contains}
use Rattle.points_to.specs.declared.place.Place.{Place}

-- the place has the number
pub data Item : Type 0 where
  At : (place : Place) → (number : ℕ) → Item

-- from the premises of a list follows an item
pub data Adds (p : Place) (n : ℕ) : List Item → Item → Type 0 where
  adds : Adds p n [] (At p n)

-- what one place has, another has
pub data Flows (p q : Place) : List Item → Item → Type 0 where
  flows : {n : ℕ} → Flows p q (At p n ∷ []) (At q n)

-- .. where it passes
pub data Filters (P : ℕ → Type 0) (p q : Place) : List Item → Item → Type 0 where
  filters : {n : ℕ} → P n → Filters P p q (At p n ∷ []) (At q n)

-- a rule for each number that the place has
pub data Each (p : Place) (R : ℕ → List Item → Item → Type 0) : List Item → Item → Type 0 where
  each : {n : ℕ} {ps : List Item} {f : Item} → R n ps f → Each p R (At p n ∷ ps) f

-- a rule with one more premise
pub data Under (premise : Item) (R : List Item → Item → Type 0) : List Item → Item → Type 0 where
  under : {ps : List Item} {f : Item} → R ps f → Under premise R (premise ∷ ps) f

abbrev pub Nothing : List Item → Item → Type 0
Nothing ps f = ⊥

-- either rule
abbrev pub Or : (List Item → Item → Type 0) → (List Item → Item → Type 0) → List Item → Item → Type 0
Or R S ps f = R ps f ⊎ S ps f

-- the rule, where P holds
abbrev pub Where : Type 0 → (List Item → Item → Type 0) → List Item → Item → Type 0
Where P R ps f = P × R ps f

-- the rule of each thing of which P holds
abbrev pub Those : {X : Type 0} → (X → Type 0) → (X → List Item → Item → Type 0) → List Item → Item → Type 0
Those {X} P R ps f = (x : X) × P x × R x ps f

-- the rule of each thing in the list
abbrev pub OneOf : {X : Type 0} → (X → List Item → Item → Type 0) → List X → List Item → Item → Type 0
OneOf {X} R xs ps f = (x : X) × Contains xs x × R x ps f

-- the rule of each number below n
abbrev pub Below : (ℕ → List Item → Item → Type 0) → ℕ → List Item → Item → Type 0
Below R n ps f = (k : ℕ) × (k < n) × R k ps f

-- the rule of the value, if there is one
abbrev pub IfSome : {X : Type 0} → (X → List Item → Item → Type 0) → Option X → List Item → Item → Type 0
IfSome R None = Nothing
IfSome R (Some x) = R x

abbrev pub AllOf : (Item → Type 0) → List Item → Type 0
AllOf K [] = Unit {0}
AllOf K (p ∷ ps) = K p × AllOf K ps

-- what follows from items of K is one of them
abbrev pub IsClosed : (List Item → Item → Type 0) → (Item → Type 0) → Type 0
IsClosed R K = (ps : List Item) (f : Item) → R ps f → AllOf K ps → K f

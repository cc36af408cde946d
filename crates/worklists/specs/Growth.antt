-- How the list of a worklist grows: it has what was found, each item once, in the order found.
use Rattle.std.specs.Prelude.{◌≡◌, ◌⊎◌, ◌++◌, List, Contains}

-- the new list is the old one, and after it others; it has each item of which P holds, and no other new one
pub record Grows {A : Type 0} (old new : List A) (P : A → Type 0) : Type 0 where
  pub front : (more : List A) × (new ≡ old ++ more)
  pub all : (x : A) → P x → Contains new x
  pub only : (x : A) → Contains new x → Contains old x ⊎ P x

-- R leads from an element of the list to the item
abbrev pub FromOne : {X A : Type 0} → (X → A → Type 0) → List X → A → Type 0
FromOne {X} R xs p = (x : X) × Contains xs x × R x p

-- a rule with two premises, either way round
abbrev pub Meets : {A : Type 0} → (A → A → A → Type 0) → A → A → A → Type 0
Meets Two one other p = Two other one p ⊎ Two one other p

-- How a list that is taken for a set grows.
use Rattle.std.specs.Prelude.{◌⊎◌, ◌↔◌, List, Contains}

-- the new list has what the old one had, and what P holds of
abbrev pub Gains : {A : Type 0} → List A → List A → (A → Type 0) → Type 0
Gains {A} old new P = (x : A) → Contains new x ↔ (Contains old x ⊎ P x)

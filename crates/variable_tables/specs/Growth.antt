-- Lists that grow by the members of a set, in order.
use Rattle.std.specs.Prelude.{◌≡◌, ◌⊎◌, ◌++◌, List, All, AllPairs, Contains}

-- the list has, in order, members of P of which Other doesn't hold; and Other holds of each member that it doesn't have
pub record IsChosen {A : Type 0} (Before : A → A → Type 0) (xs : List A) (P Other : A → Type 0) : Type 0 where
  pub each : All P xs
  pub apart : All (λ x. Other x → ⊥) xs
  pub order : AllPairs Before xs
  pub whole : (x : A) → P x → Contains xs x ⊎ Other x

-- the new list is the old one, and after it such members of P
abbrev pub GrowsBut : {A : Type 0} → (A → A → Type 0) → (A → Type 0) → List A → List A → (A → Type 0) → Type 0
GrowsBut {A} Before Other old new P = (more : List A) × (new ≡ old ++ more) × IsChosen Before more P Other

-- .. all members of P
abbrev pub GrowsInOrder : {A : Type 0} → (A → A → Type 0) → List A → List A → (A → Type 0) → Type 0
GrowsInOrder {A} Before old new P = GrowsBut Before (λ x. ⊥) old new P

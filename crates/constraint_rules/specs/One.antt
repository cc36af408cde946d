-- The one thing of which a fact holds.
use Rattle.std.specs.Prelude.{◌≡◌, ◌↔◌, Option, Some}

-- o is the one thing of which P holds; none where it holds of nothing
abbrev pub IsOne : {A : Type 0} → (A → Type 0) → Option A → Type 0
IsOne {A} P o = (x : A) → P x ↔ (o ≡ Some x)

-- x is what was found
abbrev pub IsFound : {A : Type 0} → Option A → A → Type 0
IsFound o x = o ≡ Some x

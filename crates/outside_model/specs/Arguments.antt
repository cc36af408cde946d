-- The arguments of a call from a number on.
use Rattle.std.specs.Prelude.{◌≡◌, ◌<◌, ◌≤◌, ◌||◌, ℕ, Bool, true, List, length, slice_index_or}
use Rattle.std.specs.Prelude.{false}

-- argument i is one of the call's, from this number on: any one, or a reference
pub record IsFrom (references : List Bool) (first : ℕ) (all : Bool) (i : ℕ) : Type 0 where
  pub from : first ≤ i
  pub within : i < length references
  pub kept : all || slice_index_or references i false ≡ true

-- Where control leads from each point, as rows of bits.
use Rattle.std.specs.Prelude.{◌≡◌, ◌<◌, ◌≤◌, ◌+◌, ◌*◌, ◌-◌, ◌/◌, ◌%◌, ◌^◌, ℕ, Bool, true, false, List, length, All, Contains, slice_index, sum_by}
use Rattle.std.specs.Int.{bit_at}
use Rattle.slicer_ids.specs.Walks.{LeadsOn}

-- control goes from the one point to the other
abbrev pub Goes : List (ℕ × ℕ) → ℕ → ℕ → Type 0
Goes flow p q = Contains flow (p, q)

-- the bit of point q in the row of point p, where a row has so many words
abbrev pub HasWay : ℕ → List ℕ → ℕ → ℕ → Type 0
HasWay width words p q = bit_at (slice_index words (p * width + q / 64)) (q % 64) ≡ 1

-- each bit is a way of one step or more
abbrev pub AreWays : List (ℕ × ℕ) → ℕ → List ℕ → Type 0
AreWays flow width words = (p q : ℕ) → q / 64 < width → HasWay width words p q → LeadsOn (Goes flow) p q

-- the ways that begin with the step from p to q are there
abbrev pub Follows : ℕ → List ℕ → ℕ → ℕ → Type 0
Follows width words p q = HasWay width words p q × ((b : ℕ) → b / 64 < width → HasWay width words q b → HasWay width words p b)

-- what is left to be added to the words
abbrev pub room : List ℕ → ℕ
room words = sum_by (λ w. 2 ^ 64 - 1 - w) words

-- a call that adds bits tells whether it did, and where it did there is less room
pub record Adds (old new : List ℕ) (changed : Bool) : Type 0 where
  pub size : length new ≡ length old
  pub same : changed ≡ false → new ≡ old
  pub less : changed ≡ true → room new < room old
  pub no_more : room new ≤ room old

-- the points of a step of control
abbrev pub AreSteps : ℕ → List (ℕ × ℕ) → Type 0
AreSteps points flow = All (λ (s : ℕ × ℕ). (s.0 < points) × (s.1 < points)) flow

-- rows of bits for so many points
pub record AreRows (points width : ℕ) (words : List ℕ) : Type 0 where
  pub size : length words ≡ points * width
  pub wide : points ≤ 64 * width
  pub few : points < 2 ^ 32
  pub narrow : width ≤ points

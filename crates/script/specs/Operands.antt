-- What the words after a command stand for.
use Rattle.std.specs.Prelude.{◌≡◌, ◌+◌, ◌*◌, ◌-◌, ◌^◌, ◌≤◌, ◌==◌, ℕ, List, [], ◌∷◌, length, map, All, if◌then◌else◌}
use Rattle.slicer_ids.specs.Escapes.{StandsFor}
use Rattle.script.specs.declared.command.Place.{Place}

-- `/` for `.`, and each other byte for itself
abbrev pub with_slash : ℕ → ℕ
with_slash b = if b == 46 then 47 else b

-- the name of a class that a word stands for: in its bytes, each `.` stands for `/`
abbrev pub IsClassName : List ℕ → List ℕ → Type 0
IsClassName word name = (bytes : List ℕ) × StandsFor word bytes × (name ≡ map with_slash bytes)

abbrev pub IsDigit : ℕ → Type 0
IsDigit b = (48 ≤ b) × (b ≤ 57)

-- the number of which these are the decimal digits, the highest first
abbrev pub decimal : List ℕ → ℕ
decimal [] = 0
decimal (b ∷ bs) = (b - 48) * 10 ^ length bs + decimal bs

-- the number that a word stands for: its bytes are one to five decimal digits of value at most 65535
pub record IsNumber (word : List ℕ) (n : ℕ) : Type 0 where
  pub digits : List ℕ
  pub stands : StandsFor word digits
  pub are_digits : All IsDigit digits
  pub some : 1 ≤ length digits
  pub few : length digits ≤ 5
  pub value : n ≡ decimal digits
  pub small : n ≤ 65535

-- the place that four words stand for
pub record IsPlace (class name descriptor pc : List ℕ) (place : Place) : Type 0 where
  pub of_class : IsClassName class place.class
  pub of_name : StandsFor name place.name
  pub of_descriptor : StandsFor descriptor place.descriptor
  pub at_pc : IsNumber pc place.pc

-- Some slots of each point, numbered point by point, and how control carries what is in them.
use Rattle.std.specs.Prelude.{◌≡◌, ◌<◌, ◌≤◌, ◌+◌, ◌*◌, ◌/◌, ◌%◌, ◌⊎◌, ℕ, List, Contains, length, slice_get}
use Rattle.std.specs.Option.{option_map_or}
use Rattle.slicer_ids.specs.Walks.{Leads}
use Rattle.class_form.specs.declared.body.Shape.{Shape}
use Rattle.class_form.specs.declared.body.Point.{Point}
use Rattle.class_form.specs.declared.body.Def.{Def}
use Rattle.class_form.specs.Reaching.{Place, IsPoint, IsFlow, Keeps, Carries, Begins}
use Rattle.reaching_defs.specs.declared.frame.Frame.{Frame}
use Rattle.reaching_defs.specs.Points.{IsIndex}

abbrev pub place : ℕ → ℕ → Place
place pc slot = record { pc = pc; slot = slot }

-- the pc of the point at an index
abbrev pub pc_at : List Point → ℕ → ℕ
pc_at points k = option_map_or (λ (p : Point). p.pc) (slice_get points k) 0

-- how many numbers there are
abbrev pub count : Frame → ℕ
count f = length f.shape.now.points * f.width

-- the place of a number
abbrev pub place_in : Frame → ℕ → Place
place_in f n = place (pc_at f.shape.now.points (n / f.width)) (f.first + n % f.width)

-- the slot has numbers
abbrev pub IsIn : Frame → ℕ → Type 0
IsIn f slot = (f.first ≤ slot) × (slot < f.first + f.width)

-- it is the number of the place
abbrev pub IsNumberOf : Frame → Place → ℕ → Type 0
IsNumberOf f a n = (n < count f) × (place_in f n ≡ a)

-- what is in the frame's slots comes into its slots alone
pub record IsFrame (f : Frame) : Type 0 where
  pub fits : f.first + f.width ≤ 4294967296
  pub flow : IsFlow f.shape.now
  pub index : IsIndex f.shape.now.points f.index.now
  pub closed : (a b : Place) → Carries f.shape.now a b → IsIn f a.slot → IsIn f b.slot

-- where what is in a slot before the point goes
abbrev pub CarriesOn : Shape → Point → Point → ℕ → Place → Type 0
CarriesOn s p q slot b =
    (Contains p.next b.pc × (((slot ≡ b.slot) × Keeps s p q slot) ⊎ Contains p.moves (slot, b.slot)))
    ⊎ (Contains p.handlers b.pc × (slot ≡ b.slot) × (slot < s.max_locals))

-- the instruction leaves the slot as it is
abbrev pub LeavesSlot : Point → ℕ → Type 0
LeavesSlot p slot = (Contains p.makes slot → ⊥) × ((from : ℕ) → Contains p.moves (from, slot) → ⊥)

-- what is in the slot is kept there as control goes on to a pc
abbrev pub IsKept : Frame → Point → ℕ → ℕ → ℕ → Type 0
IsKept f p slot pc n =
    (q : Point) × IsPoint f.shape.now pc q × Keeps f.shape.now p q slot × IsNumberOf f (place pc slot) n

-- .. or moved, as the pair says
abbrev pub IsMoved : Frame → ℕ → ℕ → ℕ × ℕ → ℕ → Type 0
IsMoved f slot pc m n = (m.0 ≡ slot) × IsNumberOf f (place pc m.1) n

abbrev pub GoesOn : Frame → Point → ℕ → ℕ → ℕ → Type 0
GoesOn f p slot pc n =
    IsKept f p slot pc n ⊎ ((m : ℕ × ℕ) × Contains p.moves m × IsMoved f slot pc m n)

-- a local is carried to a handler
abbrev pub IsThrown : Frame → ℕ → ℕ → ℕ → Type 0
IsThrown f slot h n = (slot < f.shape.now.max_locals) × IsNumberOf f (place h slot) n

-- control carries what is at the first number's place to the second's
abbrev pub Steps : Frame → ℕ → ℕ → Type 0
Steps f n m = (m < count f) × Carries f.shape.now (place_in f n) (place_in f m)

-- the definition first stands at this number's place, in the slot
abbrev pub IsBegun : Frame → ℕ → Def → ℕ → Type 0
IsBegun f slot def n = (pc : ℕ) × Begins f.shape.now def (place pc slot) × IsNumberOf f (place pc slot) n

-- the definition comes to the place from where it first stands in the slot
abbrev pub Comes : Shape → ℕ → Def → Place → Type 0
Comes s slot def b = (pc : ℕ) × Begins s def (place pc slot) × Leads (Carries s) (place pc slot) b

-- Where definitions first stand.
use Rattle.std.specs.Prelude.{◌≡◌, ◌<◌, ◌≤◌, ◌+◌, ℕ, List, Some, Contains, slice_get, sum, take}
use Rattle.class_form.specs.declared.body.Shape.{Shape}
use Rattle.class_form.specs.declared.body.Point.{Point}
use Rattle.class_form.specs.declared.body.Def.{Def}
use Rattle.class_form.specs.declared.body.Def.TheVariants.{Formal, Value, Caught}
use Rattle.class_form.specs.Reaching.{IsPoint, IsSlotOf}
use Rattle.reaching_defs.specs.declared.starts.Start.{Start}

abbrev pub start : ℕ → Def → Start
start slot def = record { slot = slot; def = def }

-- one of these slots, with the definition
abbrev pub IsStartIn : Def → ℕ → ℕ → Start → Type 0
IsStartIn def first width x = (x.def ≡ def) × (first ≤ x.slot) × (x.slot < first + width)

-- the slots of an argument
abbrev pub IsFormalStart : List ℕ → ℕ → Start → Type 0
IsFormalStart arguments i x =
    (width : ℕ) × (slice_get arguments i ≡ Some width) × IsStartIn (Formal i) (sum (take i arguments)) width x

-- the slots that an instruction makes
abbrev pub IsValueStart : Point → Start → Type 0
IsValueStart p x = (x.def ≡ Value p.pc) × Contains p.makes x.slot

-- a handler of the instruction
abbrev pub HasHandler : Point → ℕ → Type 0
HasHandler p h = Contains p.handlers h

-- the first slot of the stack at a handler
abbrev pub IsCaughtStart : ℕ → ℕ → Start → Type 0
IsCaughtStart locals h x = x ≡ start locals (Caught h)

-- the definition first stands in the slot
abbrev pub IsStart : Shape → ℕ → Def → Type 0
IsStart s slot (Formal i) = IsSlotOf s i slot
IsStart s slot (Value pc) = (p : Point) × IsPoint s pc p × Contains p.makes slot
IsStart s slot (Caught h) = (p : Point) × Contains s.points p × Contains p.handlers h × (slot ≡ s.max_locals)

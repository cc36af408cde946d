-- Definitions that hold.
use Rattle.std.specs.Prelude.{◌≡◌, ◌<◌, ◌⊎◌, ℕ}
use Rattle.class_form.specs.Reaches.{DefBefore}
use Rattle.class_form.specs.declared.body.Shape.{Shape}
use Rattle.class_form.specs.declared.body.Def.{Def}
use Rattle.class_form.specs.Reaching.{Place}
use Rattle.reaching_defs.specs.declared.frame.Frame.{Frame}
use Rattle.reaching_defs.specs.declared.spread.Fact.{Fact}
use Rattle.reaching_defs.specs.declared.starts.Start.{Start}
use Rattle.reaching_defs.specs.Frames.{place, place_in, Comes}

abbrev pub fact : Place → Def → Fact
fact a def = record { pc = a.pc; slot = a.slot; def = def }

-- the definition holds at the number's place
abbrev pub IsFactAt : Frame → Def → ℕ → Fact → Type 0
IsFactAt f def n x = x ≡ fact (place_in f n) def

-- the definition comes there from where it first stands in the slot
abbrev pub IsFactFrom : Shape → ℕ → Def → Fact → Type 0
IsFactFrom s slot def x = (x.def ≡ def) × Comes s slot def (place x.pc x.slot)

abbrev pub IsFactOf : Shape → Start → Fact → Type 0
IsFactOf s start x = IsFactFrom s start.slot start.def x

-- by pc, by slot, then by definition
abbrev pub FactBefore : Fact → Fact → Type 0
FactBefore a b =
    (a.pc < b.pc) ⊎ ((a.pc ≡ b.pc) × ((a.slot < b.slot) ⊎ ((a.slot ≡ b.slot) × DefBefore a.def b.def)))

abbrev pub pair_of : Fact → ℕ × ℕ
pair_of x = (x.pc, x.slot)

abbrev pub def_of : Fact → Def
def_of x = x.def

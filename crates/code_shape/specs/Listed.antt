-- Lists in the order of a key.
use Rattle.std.specs.Prelude.{◌<◌, ◌≤◌, ◌≡◌, ◌+◌, ℕ, List, All, AllPairs, Some, slice_get, take, IsTrue}
use Rattle.class_form.specs.declared.body.Instr.{Instr}
use Rattle.class_form.specs.declared.body.Operand.{Operand}
use Rattle.class_form.specs.declared.body.SlotUse.{SlotUse}
use Rattle.class_form.specs.Table.{opcode_of}
use Rattle.code_shape.specs.declared.covers.Cover.{Cover}
use Rattle.class_form.specs.Shapes.{IsAmong, operand_slots}

-- the keys ascend, and are below the bound
pub record AreBelow {A : Type 0} (key : A → ℕ) (bound : ℕ) (xs : List A) : Type 0 where
  pub order : AllPairs (λ a b. key a < key b) xs
  pub below : All (λ a. key a < bound) xs

abbrev pub slot_itself : ℕ → ℕ
slot_itself slot = slot

abbrev pub slot_of : SlotUse → ℕ
slot_of u = u.slot

abbrev pub goal_of : ℕ × ℕ → ℕ
goal_of m = m.1

-- a slot of an operand, whose slots begin at the first
abbrev pub UsesFrom : ℕ → ℕ → Operand → SlotUse → Type 0
UsesFrom number first o u = (u.operand ≡ number) × (u.base ≡ o.base) × IsAmong first o.slots u.slot

-- the operand of this number, where the first operand's slots begin at a slot
abbrev pub UsesAt : List Operand → ℕ → ℕ → SlotUse → Type 0
UsesAt operands start number u =
    (o : Operand) × (slice_get operands number ≡ Some o) × UsesFrom number (start + operand_slots (take number operands)) o u

-- a slot that is left where the taken slots begin at a slot
abbrev pub MovesAt : List ℕ → ℕ → ℕ → ℕ × ℕ → Type 0
MovesAt leaves first k m = (source : ℕ) × (slice_get leaves k ≡ Some source) × (m.0 ≡ first + source) × (m.1 ≡ first + k)

-- the next instruction begins there, and control goes on to it
abbrev pub IsNextOf : Instr → ℕ → Type 0
IsNextOf i pc = IsTrue (opcode_of i.op).goes_on × (pc ≡ i.pc + i.size)

abbrev pub handler_of : Cover → ℕ
handler_of c = c.handler

-- The shape of a method's code: what is reached, how deep the stack is there, and what each instruction does to the slots.
use Rattle.std.specs.Prelude.{◌≡◌, ◌⊎◌, ◌<◌, ◌≤◌, ◌+◌, ◌-◌, ℕ, Bool, true, false, IsTrue, max, if◌then◌else◌, List, [], Option, Some, None, All, AllPairs, Contains, length, sum, sum_by, take, slice_get}
use Rattle.slicer_ids.specs.Walks.{LeadsBy}
use Rattle.slicer_ids.specs.Sets.{IsOrderedListOf}
use Rattle.class_form.specs.declared.class_file.CodeBody.{CodeBody}
use Rattle.class_form.specs.declared.class_file.Handler.{Handler}
use Rattle.class_form.specs.declared.opcode.Takes.{Takes}
use Rattle.class_form.specs.declared.opcode.Takes.TheVariants.{Local}
use Rattle.class_form.specs.declared.body.Instr.{Instr}
use Rattle.class_form.specs.declared.body.Operand.{Operand}
use Rattle.class_form.specs.declared.body.SlotUse.{SlotUse}
use Rattle.class_form.specs.declared.body.Point.{Point}
use Rattle.class_form.specs.declared.body.Shape.{Shape}
use Rattle.class_form.specs.Table.{Moves, moves_of, opcode_of}

-- the instruction begins at the program counter
abbrev pub IsInstrAt : List Instr → ℕ → Instr → Type 0
IsInstrAt instrs pc i = Contains instrs i × (i.pc ≡ pc)

-- some instruction begins there
abbrev pub IsStart : List Instr → ℕ → Type 0
IsStart instrs pc = (i : Instr) × IsInstrAt instrs pc i

-- control goes on from the instruction to the program counter: to a target, or to the next instruction
abbrev pub GoesTo : Instr → ℕ → Type 0
GoesTo i pc = Contains i.targets pc ⊎ (IsTrue (opcode_of i.op).goes_on × (pc ≡ i.pc + i.size))

-- an entry of the exception table covers the program counter, and its handler begins at h
abbrev pub Catches : CodeBody → ℕ → ℕ → Type 0
Catches body pc h = (e : Handler) × Contains body.handlers e × (e.start ≤ pc) × (pc < e.end) × (e.handler ≡ h)

-- control goes from the instruction at a to b, to a handler also
abbrev pub ControlPasses : CodeBody → List Instr → ℕ → ℕ → Type 0
ControlPasses body instrs a b = (i : Instr) × IsInstrAt instrs a i × (GoesTo i b ⊎ Catches body a b)

-- control may come to the program counter from the start of the code
abbrev pub IsReachable : CodeBody → List Instr → ℕ → Type 0
IsReachable body instrs pc = LeadsBy (ControlPasses body instrs) 0 pc

abbrev pub IsReached : CodeBody → List Instr → Instr → Type 0
IsReached body instrs i = Contains instrs i × IsReachable body instrs i.pc

-- the slots of all operands together
abbrev pub operand_slots : List Operand → ℕ
operand_slots operands = sum_by (λ (o : Operand). o.slots) operands

-- its operand is a local, and nothing is taken off the stack
abbrev pub is_local : Takes → Bool
is_local (Local w) = true
is_local _ = false

abbrev pub reads_local : Instr → Bool
reads_local i = is_local (opcode_of i.op).takes

-- the slots that an instruction moves; none for most
abbrev pub moved_slots : Option Moves → Moves
moved_slots (Some m) = m
moved_slots None = record { takes = 0; leaves = [] }

abbrev pub moves : Instr → Moves
moves i = moved_slots (moves_of i.op)

-- how many slots it takes off the stack
abbrev pub taken : Instr → ℕ
taken i = (if reads_local i then 0 else operand_slots i.takes) + (moves i).takes

-- the depth of the stack below what it takes
abbrev pub depth_left : Instr → ℕ → ℕ
depth_left i depth = depth - taken i

-- the depth after it
abbrev pub depth_after : Instr → ℕ → ℕ
depth_after i depth = depth_left i depth + (i.leaves + length (moves i).leaves)

-- the number of the lowest slot that it takes, on the stack after the locals
abbrev pub first_taken : CodeBody → Instr → ℕ → ℕ
first_taken body i depth = body.max_locals + depth_left i depth

-- the first slot of its operands
abbrev pub first_operand : CodeBody → Instr → ℕ → ℕ
first_operand body i depth = if reads_local i then i.index else first_taken body i depth

-- the slot is one of so many from the first on
abbrev pub IsAmong : ℕ → ℕ → ℕ → Type 0
IsAmong first count slot = (first ≤ slot) × (slot < first + count)

-- the operand's slot, with its number; operands stand one after the other
abbrev pub Uses : CodeBody → Instr → ℕ → SlotUse → Type 0
Uses body i depth u =
    (o : Operand) × (slice_get i.takes u.operand ≡ Some o) × (u.base ≡ o.base)
    × IsAmong (first_operand body i depth + operand_slots (take u.operand i.takes)) o.slots u.slot

-- what was in the first slot comes into the second
abbrev pub MovesSlot : CodeBody → Instr → ℕ → ℕ × ℕ → Type 0
MovesSlot body i depth m =
    (k : ℕ) × (source : ℕ) × (slice_get (moves i).leaves k ≡ Some source)
    × (m.0 ≡ first_taken body i depth + source) × (m.1 ≡ first_taken body i depth + k)

-- a slot of the result on the stack, or of the local that it writes
abbrev pub MakesSlot : CodeBody → Instr → ℕ → ℕ → Type 0
MakesSlot body i depth slot =
    IsAmong (first_taken body i depth) i.leaves slot ⊎ IsAmong i.index (opcode_of i.op).makes slot

-- the slots of the local that it reads or writes; none where there is no local
abbrev pub local_slots : Instr → ℕ
local_slots i = max (if reads_local i then operand_slots i.takes else 0) (opcode_of i.op).makes

-- both ends of the range, and the handler, are at instructions; the range may end with the code
pub record IsEntry (body : CodeBody) (instrs : List Instr) (e : Handler) : Type 0 where
  pub start : IsStart instrs e.start
  pub handler : IsStart instrs e.handler
  pub end : IsStart instrs e.end ⊎ (e.end ≡ length body.code)

-- the local is below the number of locals, with all its slots
abbrev pub HasLocal : CodeBody → Instr → Type 0
HasLocal body i = 0 < local_slots i → i.index + local_slots i ≤ body.max_locals

-- control may leave the code at its end
abbrev pub RunsOff : CodeBody → Instr → Type 0
RunsOff body i = IsTrue (opcode_of i.op).goes_on × (i.pc + i.size ≡ length body.code)

-- a depth of the stack before each reached instruction: every way that control takes to it gives this depth
pub record AreDepths (body : CodeBody) (instrs : List Instr) (depth : ℕ → ℕ) : Type 0 where
  pub start : depth 0 ≡ 0
  pub handler : (i : Instr) (h : ℕ) → IsReached body instrs i → Catches body i.pc h → depth h ≡ 1
  pub operands : (i : Instr) → IsReached body instrs i → taken i ≤ depth i.pc
  pub result : (i : Instr) → IsReached body instrs i → depth_after i (depth i.pc) ≤ body.max_stack
  pub after : (i : Instr) (pc : ℕ) → IsReached body instrs i → GoesTo i pc → depth pc ≡ depth_after i (depth i.pc)

-- the point of the instruction
pub record IsPointOf (body : CodeBody) (i : Instr) (p : Point) : Type 0 where
  pub pc : p.pc ≡ i.pc
  pub op : p.op ≡ i.op
  pub next : IsOrderedListOf (λ (a b : ℕ). a < b) p.next (GoesTo i)
  pub handlers : IsOrderedListOf (λ (a b : ℕ). a < b) p.handlers (Catches body i.pc)
  pub uses : IsOrderedListOf (λ (a b : SlotUse). a.slot < b.slot) p.uses (Uses body i p.depth)
  pub moves : IsOrderedListOf (λ (a b : ℕ × ℕ). a.1 < b.1) p.moves (MovesSlot body i p.depth)
  pub makes : IsOrderedListOf (λ (a b : ℕ). a < b) p.makes (MakesSlot body i p.depth)

-- the points of the reached instructions, in order, with depths that fit together
pub record ArePoints (body : CodeBody) (instrs : List Instr) (depth : ℕ → ℕ) (points : List Point) : Type 0 where
  pub each : (p : Point) → Contains points p → (i : Instr) × IsReached body instrs i × IsPointOf body i p × (p.depth ≡ depth i.pc)
  pub order : AllPairs (λ (a b : Point). a.pc < b.pc) points
  pub whole : (pc : ℕ) → IsReachable body instrs pc → (p : Point) × Contains points p × (p.pc ≡ pc)

pub record Shaped (body : CodeBody) (instrs : List Instr) (arguments : List ℕ) (s : Shape) : Type 0 where
  pub count : s.max_locals ≡ body.max_locals
  pub formals : s.arguments ≡ arguments
  pub entries : All (IsEntry body instrs) body.handlers
  pub locals : All (HasLocal body) instrs
  pub ends : (i : Instr) → IsReached body instrs i → RunsOff body i → ⊥
  pub depths : (depth : ℕ → ℕ) × AreDepths body instrs depth × ArePoints body instrs depth s.points

-- so the number is the least of which P holds
abbrev pub IsLeast : (ℕ → Type 0) → ℕ → Type 0
IsLeast P n = P n × ((m : ℕ) → P m → n ≤ m)

-- the first entry that is none, by where its range starts
abbrev pub IsFirstBadEntry : CodeBody → List Instr → ℕ → Type 0
IsFirstBadEntry body instrs pc =
    (k : ℕ) × (e : Handler) × (slice_get body.handlers k ≡ Some e) × (IsEntry body instrs e → ⊥)
    × All (IsEntry body instrs) (take k body.handlers) × (e.start ≡ pc)

-- an instruction of a kind begins there
abbrev pub HasInstr : List Instr → (Instr → Type 0) → ℕ → Type 0
HasInstr instrs Is pc = (i : Instr) × IsInstrAt instrs pc i × Is i

-- the first rule that the code breaks, with its program counter: on entries, on locals, on the code's end, on depths
abbrev pub BreaksFirst : CodeBody → List Instr → ℕ → ℕ → Type 0
BreaksFirst body instrs rule pc =
    ((rule ≡ 6) × IsFirstBadEntry body instrs pc)
    ⊎ ((rule ≡ 7) × All (IsEntry body instrs) body.handlers × IsLeast (HasInstr instrs (λ i. HasLocal body i → ⊥)) pc)
    ⊎ ((rule ≡ 8) × All (IsEntry body instrs) body.handlers × All (HasLocal body) instrs
    × IsLeast (HasInstr instrs (λ i. IsReached body instrs i × RunsOff body i)) pc)
    ⊎ ((rule ≡ 9) × All (IsEntry body instrs) body.handlers × All (HasLocal body) instrs
    × ((i : Instr) → IsReached body instrs i → RunsOff body i → ⊥)
    × ((depth : ℕ → ℕ) → AreDepths body instrs depth → ⊥) × (pc ≡ 0))

-- the instructions follow one another from the start of the code to its end, and jump to one another
pub record AreInstrsOf (size : ℕ) (instrs : List Instr) : Type 0 where
  pub some : 0 < length instrs
  pub first : (i : Instr) → slice_get instrs 0 ≡ Some i → i.pc ≡ 0
  pub follow : (k : ℕ) (i j : Instr) → slice_get instrs k ≡ Some i → slice_get instrs (k + 1) ≡ Some j → j.pc ≡ i.pc + i.size
  pub last : (k : ℕ) (i : Instr) → slice_get instrs k ≡ Some i → slice_get instrs (k + 1) ≡ None → i.pc + i.size ≡ size
  pub sizes : (i : Instr) → Contains instrs i → 0 < i.size
  pub targets : (i : Instr) (pc : ℕ) → Contains instrs i → Contains i.targets pc → IsStart instrs pc
  pub operands : (i : Instr) → Contains instrs i → length i.takes ≤ 256
  pub widths : (i : Instr) → Contains instrs i → All (λ (o : Operand). o.slots ≤ 2) i.takes
  pub results : (i : Instr) → Contains instrs i → i.leaves ≤ 2

-- one or two slots for each argument, at most 255 and at most as many as there are locals
pub record AreArguments (body : CodeBody) (arguments : List ℕ) : Type 0 where
  pub widths : All (λ w. (1 ≤ w) × (w ≤ 2)) arguments
  pub fit : sum arguments ≤ 255
  pub within : sum arguments ≤ body.max_locals

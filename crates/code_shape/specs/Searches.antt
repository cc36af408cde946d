-- The search for what control comes to, and the depths that it gives.
use Rattle.std.specs.Prelude.{◌≡◌, ◌<◌, ◌≤◌, ◌+◌, ◌⊎◌, ◌↔◌, ℕ, IsTrue, List, [], ◌∷◌, nat_eq, if◌then◌else◌, All, AllPairs, Contains, length, slice_index}
use Rattle.class_form.specs.Table.{opcode_of}
use Rattle.class_form.specs.declared.body.Instr.{Instr}
use Rattle.class_form.specs.declared.class_file.CodeBody.{CodeBody}
use Rattle.class_form.specs.Shapes.{AreInstrsOf, IsEntry, GoesTo, Catches, IsReachable, AreDepths, taken, depth_after}
use Rattle.worklist.specs.Worklists.{IsWorklist}
use Rattle.code_shape.specs.declared.covers.Cover.{Cover}
use Rattle.code_shape.specs.declared.search.Code.{Code}
use Rattle.code_shape.specs.declared.search.Search.{Search}
use Rattle.code_shape.specs.Codes.{IsAt, AreInOrder, IsIndexOf}
use Rattle.code_shape.specs.Covers.{CoverBefore, IsCovered}

pub record IsCode (c : Code) : Type 0 where
  pub instrs : AreInstrsOf (length c.body.now.code) c.instrs.now
  pub order : AreInOrder c.instrs.now
  pub few : length c.instrs.now ≤ 65535
  pub small : length c.body.now.code < 65536
  pub entries : All (IsEntry c.body.now c.instrs.now) c.body.now.handlers
  pub covers_order : AllPairs CoverBefore c.covers.now
  pub covers : (x : Cover) → Contains c.covers.now x ↔ IsCovered c.body.now c.instrs.now x

-- each depth that was given is the one that all depths have there which fit together
pub record IsSearch (c : Code) (s : Search) : Type 0 where
  pub marks : IsWorklist s.found.marks.items s.found.items.items
  pub size : length s.found.marks.items ≡ length c.instrs.now
  pub depths : length s.depths.items ≡ length c.instrs.now
  pub forced : (f : ℕ → ℕ) → AreDepths c.body.now c.instrs.now f → (k : ℕ) (i : Instr) → Contains s.found.items.items k → IsAt c.instrs.now k i → slice_index s.depths.items k ≡ f i.pc

-- all depths that fit together have this one there
abbrev pub IsForced : Code → ℕ → ℕ → Type 0
IsForced c pc depth = (f : ℕ → ℕ) → AreDepths c.body.now c.instrs.now f → f pc ≡ depth

-- control goes on to the next instruction, which has this index
abbrev pub IsNext : Code → Instr → ℕ → Type 0
IsNext c i m = IsTrue (opcode_of i.op).goes_on × IsIndexOf c.instrs.now (i.pc + i.size) m

-- the index of a handler of the instruction
abbrev pub IsHandler : Code → Instr → ℕ → Type 0
IsHandler c i m = (h : ℕ) × Catches c.body.now i.pc h × IsIndexOf c.instrs.now h m

-- control goes from the instruction of the first index to that of the second
abbrev pub Steps : Code → ℕ → ℕ → Type 0
Steps c k m =
    (i : Instr) × (j : Instr) × IsAt c.instrs.now k i × IsAt c.instrs.now m j × (GoesTo i j.pc ⊎ Catches c.body.now i.pc j.pc)

-- control comes to the instruction of the index
abbrev pub IsReachedAt : Code → ℕ → Type 0
IsReachedAt c k = (i : Instr) × IsAt c.instrs.now k i × IsReachable c.body.now c.instrs.now i.pc

-- the search has found exactly what control comes to
pub record IsDone (c : Code) (s : Search) : Type 0 where
  pub search : IsSearch c s
  pub exact : (k : ℕ) (i : Instr) → IsAt c.instrs.now k i → Contains s.found.items.items k ↔ IsReachable c.body.now c.instrs.now i.pc

-- the depth before the instruction at a pc, by the depths of the indices
abbrev pub depth_in : List Instr → List ℕ → ℕ → ℕ
depth_in [] depths pc = 0
depth_in (i ∷ instrs) [] pc = 0
depth_in (i ∷ instrs) (d ∷ depths) pc = if nat_eq i.pc pc then d else depth_in instrs depths pc

-- the instruction at the pc has the depth
abbrev pub HasDepth : Code → List ℕ → ℕ → ℕ → Type 0
HasDepth c depths depth pc = (m : ℕ) → IsIndexOf c.instrs.now pc m → slice_index depths m ≡ depth

-- the depth before an instruction goes with those of the instructions to which control goes from it
pub record Fits (c : Code) (depths : List ℕ) (i : Instr) (depth : ℕ) : Type 0 where
  pub operands : taken i ≤ depth
  pub result : depth_after i depth ≤ c.body.now.max_stack
  pub targets : (pc : ℕ) → Contains i.targets pc → HasDepth c depths (depth_after i depth) pc
  pub next : IsTrue (opcode_of i.op).goes_on → HasDepth c depths (depth_after i depth) (i.pc + i.size)
  pub handlers : (h : ℕ) → Catches c.body.now i.pc h → HasDepth c depths 1 h

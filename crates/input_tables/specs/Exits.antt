-- Edges to what a method answers, and to what it throws.
use Rattle.std.specs.Prelude.{◌≡◌, ◌⊎◌, ◌↔◌, ◌<◌, ◌≤◌, ℕ, List, Contains}
use Rattle.slicer_ids.specs.declared.ids.MethodId.{MethodId}
use Rattle.class_form.specs.Opcodes.{IsCall, IsThrow, IsValueReturn}
use Rattle.class_form.specs.declared.body.Body.{Body}
use Rattle.class_form.specs.declared.body.Point.{Point}
use Rattle.class_form.specs.declared.class_file.CodeBody.{CodeBody}
use Rattle.class_form.specs.declared.class_file.Handler.{Handler}
use Rattle.dep_form.specs.declared.node.Edge.{Edge}
use Rattle.dep_form.specs.declared.node.Label.TheVariants.{Thin}
use Rattle.dep_form.specs.declared.node.Node.{Node}
use Rattle.dep_form.specs.declared.node.Node.TheVariants.{Own, Exception, Return, Thrown}
use Rattle.program_form.specs.Nodes.{at}
use Rattle.program_form.specs.Programs.{Program, CodeOf}
use Rattle.program_form.specs.Statements.{HasOpcode, MayLeave}
use Rattle.program_code.specs.Codes.{IsProgramOfCode}
use Rattle.input_tables.specs.Edges.{IsEdgeFrom, IsRaisedNode}
use Rattle.input_tables.specs.Uses.{IsNodeIn}

-- the range of the handler has the program counter
abbrev pub Covers : ℕ → Handler → Type 0
Covers pc e = (e.start ≤ pc) × (pc < e.end)

abbrev pub IsCatchAll : ℕ → Handler → Type 0
IsCatchAll pc e = (e.catch_type ≡ 0) × Covers pc e

-- one of the handlers catches all that is thrown at the program counter
abbrev pub IsAllCaught : List Handler → ℕ → Type 0
IsAllCaught handlers pc = (e : Handler) × Contains handlers e × IsCatchAll pc e

-- ---- by the opcode of a point
abbrev pub IsReturnNode : ℕ → ℕ → Node → Type 0
IsReturnNode op pc k = IsValueReturn op × (k ≡ Own pc)

abbrev pub IsLeavingNode : List Handler → ℕ → ℕ → Node → Type 0
IsLeavingNode handlers op pc k = (IsAllCaught handlers pc → ⊥) × IsRaisedNode op pc k

abbrev pub IsReturnEdge : ℕ → List Node → Point → Edge → Type 0
IsReturnEdge first row t x = IsEdgeFrom first row (IsReturnNode t.op t.pc) Return Thin x

abbrev pub IsThrownEdge : List Handler → ℕ → List Node → Point → Edge → Type 0
IsThrownEdge handlers first row t x = IsEdgeFrom first row (IsLeavingNode handlers t.op t.pc) Thrown Thin x

abbrev pub IsPointExit : List Handler → ℕ → List Node → Point → Edge → Type 0
IsPointExit handlers first row t x = IsReturnEdge first row t x ⊎ IsThrownEdge handlers first row t x

-- ---- of a program
-- a return leads to what is answered; a throw, and what a call throws, to what the method throws, where no handler catches all
pub data IsExitFlow (p : Program) (m : MethodId) : Node → Node → Type 0 where
  returns : {pc : ℕ} → HasOpcode p (at m pc) IsValueReturn → IsExitFlow p m (Own pc) Return
  throws : {pc : ℕ} → HasOpcode p (at m pc) IsThrow → MayLeave p (at m pc) → IsExitFlow p m (Own pc) Thrown
  passes_on : {pc : ℕ} → HasOpcode p (at m pc) IsCall → MayLeave p (at m pc) → IsExitFlow p m (Exception pc) Thrown

abbrev pub IsExitEdge : Program → MethodId → ℕ → List Node → Edge → Type 0
IsExitEdge p m first row e =
    (k : Node) × (j : Node) × IsNodeIn first row e.from k × IsNodeIn first row e.to j × IsExitFlow p m k j × (e.label ≡ Thin)

-- these are the handlers of the method's code
abbrev pub AreHandlersOf : Program → MethodId → List Handler → Type 0
AreHandlersOf p m handlers = (c : CodeBody) → CodeOf p m c → handlers ≡ c.handlers

-- these are the edges to exits in a method of a program of these bodies
abbrev pub AreExitEdgesOf : List Body → MethodId → List Handler → ℕ → List Node → List Edge → Type 0
AreExitEdgesOf bodies m handlers first row edges =
    (p : Program) → p.bodies ≡ bodies → IsProgramOfCode p → AreHandlersOf p m handlers → (e : Edge) → Contains edges e ↔ IsExitEdge p m first row e

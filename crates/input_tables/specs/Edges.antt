-- Edges between nodes of one row, and what takes which definition.
use Rattle.std.specs.Prelude.{◌≡◌, ◌⊎◌, ◌↔◌, ◌<◌, ◌≤◌, ◌+◌, ◌^◌, ℕ, Bool, true, false, List, Option, Some, All, AllPairs, Contains, length, slice_get}
use Rattle.std.specs.Ordering.{nat_cmp}
use Rattle.slicer_ids.specs.declared.ids.MethodId.{MethodId}
use Rattle.class_form.specs.ClassRules.{IsClassFile}
use Rattle.class_form.specs.Opcodes.{IsCall, IsThrow}
use Rattle.class_form.specs.Reaches.{IsReachOf}
use Rattle.class_form.specs.Reaching.{HoldsAt}
use Rattle.class_form.specs.declared.body.Body.{Body}
use Rattle.class_form.specs.declared.body.Def.{Def}
use Rattle.class_form.specs.declared.body.Def.TheVariants.{Formal as Argument', Value, Caught}
use Rattle.class_form.specs.declared.body.Point.{Point}
use Rattle.class_form.specs.declared.body.Shape.{Shape}
use Rattle.class_form.specs.declared.body.SlotUse.{SlotUse}
use Rattle.dep_form.specs.declared.node.Edge.{Edge}
use Rattle.dep_form.specs.declared.node.Label.{Label}
use Rattle.dep_form.specs.declared.node.Label.TheVariants.{Thin, Base}
use Rattle.dep_form.specs.declared.node.Node.{Node}
use Rattle.dep_form.specs.declared.node.Node.TheVariants.{Formal, Own, Argument, Result, Exception}
use Rattle.dep_form.specs.Nodes.{ComesBefore}
use Rattle.dep_form.specs.Orders.{RiseBy}
use Rattle.program_form.specs.Dependences.{Takes}
use Rattle.program_form.specs.Nodes.{at}
use Rattle.program_form.specs.Programs.{Program}
use Rattle.program_code.specs.Codes.{IsProgramOfCode}
use Rattle.fact_form.specs.EdgeNumbers.{IsDefinitionNumber, IsTakerNumber}
use Rattle.fact_form.specs.FactTables.{StepBefore}
use Rattle.worklists.specs.Growth.{FromOne}
use Rattle.input_tables.specs.declared.ground.Ground.{Ground}
use Rattle.input_tables.specs.declared.steps.Step.{Step}
use Rattle.input_tables.specs.Control.{step}
use Rattle.input_tables.specs.Uses.{IsNodeIn}

abbrev pub edge_of : ℕ → ℕ → Label → Edge
edge_of a b l = record { from = record { 0 = a }; to = record { 0 = b }; label = l }

-- ---- edges by the places of nodes in their row
abbrev pub IsEdgeTo : ℕ → ℕ → Option ℕ → Label → Edge → Type 0
IsEdgeTo first a to l x = (b : ℕ) × (to ≡ Some b) × (x ≡ edge_of (first + a) (first + b) l)

abbrev pub IsEdgeFound : ℕ → Option ℕ → Option ℕ → Label → Edge → Type 0
IsEdgeFound first from to l x = (a : ℕ) × (from ≡ Some a) × IsEdgeTo first a to l x

abbrev pub IsEdgeBy : ℕ → List Node → Node → Node → Label → Edge → Type 0
IsEdgeBy first row k j l x = (a : ℕ) × (b : ℕ) × (slice_get row a ≡ Some k) × (slice_get row b ≡ Some j) × (x ≡ edge_of (first + a) (first + b) l)

-- from one of the nodes of which K holds
abbrev pub IsEdgeFrom : ℕ → List Node → (Node → Type 0) → Node → Label → Edge → Type 0
IsEdgeFrom first row K j l x = (k : Node) × K k × IsEdgeBy first row k j l x

-- .. the node that was found
abbrev pub IsFoundNode : Option Node → Node → Type 0
IsFoundNode o k = o ≡ Some k

-- ---- the nodes of a statement, by its opcode
abbrev pub IsValueNode : ℕ → ℕ → Node → Type 0
IsValueNode op pc k = ((IsCall op → ⊥) × (k ≡ Own pc)) ⊎ (IsCall op × (k ≡ Result pc))

abbrev pub IsTakerNode : ℕ → ℕ → ℕ → Node → Type 0
IsTakerNode op pc operand k = ((IsCall op → ⊥) × (k ≡ Own pc)) ⊎ (IsCall op × (k ≡ Argument pc operand))

abbrev pub IsRaisedNode : ℕ → ℕ → Node → Type 0
IsRaisedNode op pc k = (IsThrow op × (k ≡ Own pc)) ⊎ (IsCall op × (k ≡ Exception pc))

-- a base is an object or array that is reached through, or an index
abbrev pub operand_label : Bool → Label
operand_label true = Base
operand_label false = Thin

-- ---- points that lead to handlers
abbrev pub IsRaise : ℕ → ℕ → Step → Type 0
IsRaise q h x = x ≡ step h q

abbrev pub IsRaiseAt : List Point → ℕ → Step → Type 0
IsRaiseAt points q x = (t : Point) × (slice_get points q ≡ Some t) × FromOne (IsRaise q) t.handlers x

-- the point of this number has the handler
abbrev pub HasHandler : List Point → ℕ → ℕ → Type 0
HasHandler points h q = (t : Point) × (slice_get points q ≡ Some t) × Contains t.handlers h

-- the handlers of points, each with the number of the point
pub record AreRaises (points : List Point) (raises : List (ℕ × ℕ)) : Type 0 where
  pub order : AllPairs StepBefore raises
  pub members : (h q : ℕ) → Contains raises (h, q) ↔ HasHandler points h q

-- ---- the nodes of a definition
abbrev pub HasOp : List Point → ℕ → ℕ → Type 0
HasOp points pc op = (t : Point) × Contains points t × (t.pc ≡ pc) × (t.op ≡ op)

abbrev pub IsValueAt : List Point → ℕ → Node → Type 0
IsValueAt points pc k = (op : ℕ) × HasOp points pc op × IsValueNode op pc k

abbrev pub IsRaisedAt : List Point → ℕ → Node → Type 0
IsRaisedAt points q k = (t : Point) × (slice_get points q ≡ Some t) × IsRaisedNode t.op t.pc k

abbrev pub IsCaughtAt : List Point → ℕ → Node → Type 0
IsCaughtAt points h k = (q : ℕ) × HasHandler points h q × IsRaisedAt points q k

abbrev pub IsDefNode : List Point → Def → Node → Type 0
IsDefNode points (Argument' i) k = k ≡ Formal i
IsDefNode points (Value pc) k = IsValueAt points pc k
IsDefNode points (Caught h) k = IsCaughtAt points h k

module _ (points : List Point) (first : ℕ) (row : List Node) where
  -- an edge from what the point of a pair throws
  abbrev pub IsRaiseEdge : Node → Label → ℕ × ℕ → Edge → Type 0
  IsRaiseEdge j l raise x = IsEdgeFrom first row (IsRaisedAt points raise.1) j l x

  -- an edge from a definition to what takes it
  abbrev pub IsDefEdge : Node → Label → Def → Edge → Type 0
  IsDefEdge j l d x = IsEdgeFrom first row (IsDefNode points d) j l x

  module _ (shape : Shape) where
    -- .. from one that holds in a slot
    abbrev pub IsHeldEdge : ℕ → ℕ → Node → Label → Edge → Type 0
    IsHeldEdge pc slot j l x = (d : Def) × HoldsAt shape pc slot d × IsDefEdge j l d x

    abbrev pub IsUseEdge : Point → SlotUse → Edge → Type 0
    IsUseEdge t u x = (j : Node) × IsTakerNode t.op t.pc u.operand j × IsHeldEdge t.pc u.slot j (operand_label u.base) x

    abbrev pub IsPointEdge : Point → Edge → Type 0
    IsPointEdge t x = FromOne (IsUseEdge t) t.uses x

-- ---- of a program
-- the one node is of a definition, which the other takes
abbrev pub IsOperandFlow : Program → MethodId → Node → Node → Label → Type 0
IsOperandFlow p m k j l =
    (pc : ℕ) × (u : SlotUse) × (d : Def) × Takes p (at m pc) u d × IsDefinitionNumber p m d k × IsTakerNumber p m pc u.operand j × (l ≡ operand_label u.base)

abbrev pub IsOperandEdge : Program → MethodId → ℕ → List Node → Edge → Type 0
IsOperandEdge p m first row e =
    (k : Node) × (j : Node) × IsNodeIn first row e.from k × IsNodeIn first row e.to j × IsOperandFlow p m k j e.label

-- the table of definitions is that of the shape
abbrev pub HasReach : Body → Type 0
HasReach b = IsReachOf b.shape b.reach

-- these are the edges of operands in a method of a program of these bodies
abbrev pub AreOperandEdgesOf : List Body → MethodId → ℕ → List Node → List Edge → Type 0
AreOperandEdgesOf bodies m first row edges =
    (p : Program) → p.bodies ≡ bodies → IsProgramOfCode p → All IsClassFile p.classes → (e : Edge) → Contains edges e ↔ IsOperandEdge p m first row e

-- what edges are made with
pub record IsGround (g : Ground) : Type 0 where
  pub points : RiseBy nat_cmp (λ (t : Point). t.pc) g.points.now
  pub few : length g.points.now < 2 ^ 32
  pub raises : AreRaises g.points.now g.raises.now
  pub row : AllPairs ComesBefore g.row.now
  pub small : length g.row.now < 2 ^ 32
  pub numbers : g.first + length g.row.now ≤ 2 ^ 32

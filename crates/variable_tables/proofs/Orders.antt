-- What comes before what in lists of statements and operands.
use Rattle.std.proofs.Common.{◌≡◌, ◌<◌, ℕ, List, Contains, sym, ap, subst, ◌∙◌, inl, inr, arith}
use Rattle.slicer_ids.specs.Order.{StatementBefore}
use Rattle.slicer_ids.specs.declared.ids.MethodId.{MethodId}
use Rattle.slicer_ids.specs.declared.ids.Statement.{Statement}
use Rattle.worklists.specs.Growth.{FromOne}
use Rattle.class_form.specs.declared.body.Body.{Body}
use Rattle.class_form.specs.declared.body.Instr.{Instr}
use Rattle.class_form.specs.declared.body.Point.{Point}
use Rattle.program_form.specs.Programs.{Program}
use Rattle.variable_tables.specs.declared.kinds.Kind.{Kind}
use Rattle.variable_tables.specs.declared.tables.OperandPlace.{OperandPlace}
use Rattle.variable_tables.specs.Statements.{PointHas}
use Rattle.variable_tables.specs.Members.{MethodRises, IsAmong, IsCallIn}
use Rattle.variable_tables.specs.Operands.{OperandBefore, IsReadAt, IsReadThere}

pub points_rise : (kind : Kind) (instrs : List Instr) (y z : Point) (a b : ℕ) → y.pc < z.pc → PointHas kind instrs y a → PointHas kind instrs z b → a < b
points_rise kind instrs y z a b lt p q = omega (arith, lt, p.0, q.0)

-- a statement of a method at a program counter
abbrev pub IsThere : MethodId → ℕ → Statement → Type 0
IsThere m pc t = t ≡ record { method = m; pc = pc }

pub statements_rise : (m : MethodId) (y z : ℕ) (a b : Statement) → y < z → IsThere m y a → IsThere m z b → StatementBefore a b
statements_rise m y z a b lt e f =
    inr (ap (λ (t : Statement). t.method) e ∙ sym (ap (λ (t : Statement). t.method) f), omega (arith, lt, ap (λ (t : Statement). t.pc) e, ap (λ (t : Statement). t.pc) f))

pub among_to : (m : MethodId) (pcs : List ℕ) (t : Statement) → FromOne (IsThere m) pcs t → IsAmong m pcs t
among_to m pcs t (pc, among, e) = (ap (λ (t : Statement). t.method) e, subst (λ k. Contains pcs k) (sym (ap (λ (t : Statement). t.pc) e)) among)

pub among_from : (m : MethodId) (pcs : List ℕ) (t : Statement) → IsAmong m pcs t → FromOne (IsThere m) pcs t
among_from m pcs t (e, among) = (t.pc, among, ap (λ n. record { method = n; pc = t.pc }) e)

pub calls_rise : (y z : Body) (a b : Statement) → MethodRises y z → IsCallIn y a → IsCallIn z b → StatementBefore a b
calls_rise y z a b lt p q = inl (omega (arith, lt, ap (λ (m : MethodId). m.0) p.0, ap (λ (m : MethodId). m.0) q.0))

pub operands_rise : (c : Body) (pc op n i j : ℕ) (a b : OperandPlace) → i < j → IsReadAt c pc op n i a → IsReadAt c pc op n j b → OperandBefore a b
operands_rise c pc op n i j a b lt (e, r) (f, s) =
    inr (ap (λ (k : OperandPlace). k.statement) e ∙ sym (ap (λ (k : OperandPlace). k.statement) f), omega (arith, lt, ap (λ (k : OperandPlace). k.operand) e, ap (λ (k : OperandPlace). k.operand) f))

pub places_rise : (p : Program) (c : Body) (y z : Point) (a b : OperandPlace) → y.pc < z.pc → IsReadThere p c y a → IsReadThere p c z b → OperandBefore a b
places_rise p c y z a b lt (e, r) (f, s) =
    inl (inr (ap (λ (t : Statement). t.method) e ∙ sym (ap (λ (t : Statement). t.method) f), omega (arith, lt, ap (λ (t : Statement). t.pc) e, ap (λ (t : Statement). t.pc) f)))

pub bodies_rise : (p : Program) (y z : Body) (a b : OperandPlace) → MethodRises y z → FromOne (IsReadThere p y) y.shape.points a → FromOne (IsReadThere p z) z.shape.points b
    → OperandBefore a b
bodies_rise p y z a b lt (q, c, (e, r)) (w, d, (f, s)) =
    inl (inl (omega (arith, lt, ap (λ (t : Statement). t.method.0) e, ap (λ (t : Statement). t.method.0) f)))

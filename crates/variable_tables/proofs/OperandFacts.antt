-- Operands that are read as objects, by what code knows of their instruction.
use Rattle.std.proofs.Common.{◌≡◌, ◌<◌, ℕ, List, Contains, refl, sym, ap, subst, ◌∙◌, inl, inr}
use Rattle.std.specs.Prelude.{◌↔◌}
use Rattle.slicer_ids.specs.declared.ids.MethodId.{MethodId}
use Rattle.slicer_ids.specs.declared.ids.Statement.{Statement}
use Rattle.worklists.specs.Growth.{FromOne}
use Rattle.class_form.specs.Opcodes.{IsPutField, IsReferenceStore}
use Rattle.class_form.specs.Reaching.{HoldsIn}
use Rattle.class_form.specs.declared.body.Body.{Body}
use Rattle.class_form.specs.declared.body.Instr.{Instr}
use Rattle.class_form.specs.declared.body.Point.{Point}
use Rattle.class_form.specs.declared.body.Def.{Def}
use Rattle.dep_form.specs.declared.rules.Var.{Var}
use Rattle.dep_form.specs.declared.rules.MethodVars.{MethodVars}
use Rattle.program_form.specs.Programs.{Program}
use Rattle.program_form.specs.Statements.{IsAt, HasOpcode, OperandIs}
use Rattle.program_form.specs.Nodes.{HasArgument}
use Rattle.constraint_form.specs.Asked.{IsReadProgram}
use Rattle.constraint_form.specs.Variables.{ReadsFirst, ReadsObject}
use Rattle.constraint_form.proofs.Instructions.{one_at, one_body}
use Rattle.signature_tables.specs.Statements.{statement, IsInstrPc}
use Rattle.variable_tables.specs.declared.tables.OperandPlace.{OperandPlace}
use Rattle.variable_tables.specs.Operands.{IsAlone, DefNumber, Reads, IsRead, IsReadBy, IsReadThere, IsDefined, HasDefinition}

-- a statement of which an operand is read has an instruction
object_at : (p : Program) (t : Statement) (i : ℕ) → ReadsObject p t i → (a : Body) × (j : Instr) × IsAt p t a j
object_at p t i (inl (e, (a, j, at, is))) = (a, j, at)
object_at p t i (inr (inl (e, (a, j, at, is)))) = (a, j, at)
object_at p t i (inr (inr (inl (e, (a, j, at, is))))) = (a, j, at)
object_at p t i (inr (inr (inr (u, instance, type, is_instance, lt)))) = let (a, j, at, is) = type.0 in (a, j, at)

module _ (p : Program) (asked : IsReadProgram p) (b : Body) (q : Point) where
  pub none_read : Contains p.bodies b → (IsInstrPc b.instrs q.pc → ⊥) → (k : OperandPlace) → IsReadThere p b q k → ⊥
  none_read has none k (e, reads) =
      let (a, j, at) = object_at p k.statement k.operand reads in
      let same = one_body p asked a b at.0 has (at.1 ∙ ap (λ (s : Statement). s.method) e) in
      none (j, subst (λ (x : Body). Contains x.instrs j) same at.2, at.3 ∙ ap (λ (s : Statement). s.pc) e)

  module _ (instr : Instr) (at : IsAt p (statement b q.pc) b instr) where
    kind_at : (K : ℕ → Type 0) → HasOpcode p (statement b q.pc) K → K instr.op
    kind_at K (a, j, there, is) = let same = one_at p asked (statement b q.pc) a b j instr there at in subst (λ (x : Instr). K x.op) same.1 is

    opcode_at : (K : ℕ → Type 0) → K instr.op → HasOpcode p (statement b q.pc) K
    opcode_at K is = (b, instr, at, is)

    module _ (n : ℕ) (arguments : (j : ℕ) → HasArgument p (statement b q.pc) j ↔ (j < n)) where
      reads_to : (i : ℕ) → Reads instr.op n i → ReadsObject p (statement b q.pc) i
      reads_to i (inl (e, is)) = inl (e, opcode_at ReadsFirst is)
      reads_to i (inr (inl (e, is))) = inr (inl (e, opcode_at IsPutField is))
      reads_to i (inr (inr (inl (e, is)))) = inr (inr (inl (e, opcode_at IsReferenceStore is)))
      reads_to i (inr (inr (inr lt))) = inr (inr (inr ((arguments i).1 lt)))

      reads_from : (i : ℕ) → ReadsObject p (statement b q.pc) i → Reads instr.op n i
      reads_from i (inl (e, is)) = inl (e, kind_at ReadsFirst is)
      reads_from i (inr (inl (e, is))) = inr (inl (e, kind_at IsPutField is))
      reads_from i (inr (inr (inl (e, is)))) = inr (inr (inl (e, kind_at IsReferenceStore is)))
      reads_from i (inr (inr (inr has))) = inr (inr (inr ((arguments i).0 has)))

      pub there_from : (k : OperandPlace) → IsReadBy b q.pc instr.op n k → IsReadThere p b q k
      there_from k (i, (e, reads)) =
          let place : OperandPlace = record { statement = statement b q.pc; operand = i } in
          subst (λ z. IsReadThere p b q z) (sym e) (refl, reads_to i reads)

      pub by_from : (k : OperandPlace) → IsReadThere p b q k → IsReadBy b q.pc instr.op n k
      by_from k (e, reads) =
          let same : k ≡ record { statement = statement b q.pc; operand = k.operand } = ap (λ (s : Statement). record { statement = s; operand = k.operand }) e in
          (k.operand, (same, reads_from k.operand (subst (λ s. ReadsObject p s k.operand) e reads)))

    -- ---- the definition that alone holds there
    holds : (i : ℕ) (d : Def) → OperandIs p (statement b q.pc) i d → HoldsIn b.shape q.pc i d
    holds i d (a, j, there, h) = let same = one_at p asked (statement b q.pc) a b j instr there at in subst (λ (x : Body). HoldsIn x.shape q.pc i d) same.0 h

    operand : (i : ℕ) (d : Def) → HoldsIn b.shape q.pc i d → OperandIs p (statement b q.pc) i d
    operand i d h = (b, instr, at, h)

    pub alone_to : (i : ℕ) (d : Def) → IsAlone (HoldsIn b.shape q.pc i) d → IsAlone (OperandIs p (statement b q.pc) i) d
    alone_to i d a = (operand i d a.0, λ e h. a.1 e (holds i e h))

    pub alone_from : (i : ℕ) (d : Def) → IsAlone (OperandIs p (statement b q.pc) i) d → IsAlone (HoldsIn b.shape q.pc i) d
    alone_from i d a = (holds i d a.0, λ e h. a.1 e (operand i e h))

    pub definition_to : (vs : List MethodVars) (k : OperandPlace) → k.statement ≡ statement b q.pc → IsDefined vs b k → HasDefinition p vs k
    definition_to vs k e (x, (d, alone, number)) =
        subst (λ s. (d : Def) × (x : Var) × IsAlone (OperandIs p s k.operand) d × DefNumber vs s.method d x) (sym e)
        (d, x, alone_to k.operand d (subst (λ (s : Statement). IsAlone (HoldsIn b.shape s.pc k.operand) d) e alone), number)

    pub definition_from : (vs : List MethodVars) (k : OperandPlace) → k.statement ≡ statement b q.pc → HasDefinition p vs k → IsDefined vs b k
    definition_from vs k e (d, x, alone, number) =
        let here : IsAlone (HoldsIn b.shape q.pc k.operand) d = alone_from k.operand d (subst (λ s. IsAlone (OperandIs p s k.operand) d) e alone) in
        (x, (d, subst (λ (s : Statement). IsAlone (HoldsIn b.shape s.pc k.operand) d) (sym e) here, subst (λ (s : Statement). DefNumber vs s.method d x) e number))

-- what is read is read at a point of a body
module _ (p : Program) (asked : IsReadProgram p) (bodies : List Body) (are : p.bodies ≡ bodies) where
  pub read_to : (k : OperandPlace) → FromOne (λ (b : Body). FromOne (IsReadThere p b) b.shape.points) bodies k → IsRead p k
  read_to k (b, among, (q, point, (e, reads))) = reads

  pub read_from : (k : OperandPlace) → IsRead p k → FromOne (λ (b : Body). FromOne (IsReadThere p b) b.shape.points) bodies k
  read_from k reads =
      let (b, i, at) = object_at p k.statement k.operand reads in
      let (q, point) = at.4 in
      let place : k.statement ≡ statement b q.pc = ap (λ (m : MethodId). record { method = m; pc = k.statement.pc }) (sym at.1) ∙ ap (λ n. statement b n) (sym point.1) in
      (b, subst (λ (bs : List Body). Contains bs b) are at.0, (q, point.0, (place, reads)))

-- What is copied to the variable of its own that an operand has.
use Rattle.std.proofs.Common.{◌≡◌, ◌<◌, ℕ, List, Option, None, Some, Contains, refl, sym, ap, subst}
use Rattle.std.specs.Prelude.{◌↔◌, AllPairs}
use Rattle.worklists.specs.Growth.{Grows, FromOne}
use Rattle.worklists.proofs.Growing.{Grows-same}
use Rattle.slicer_ids.specs.declared.ids.Statement.{Statement}
use Rattle.class_form.specs.declared.body.Body.{Body}
use Rattle.class_form.specs.declared.body.Point.{Point}
use Rattle.class_form.specs.declared.body.Instr.{Instr}
use Rattle.class_form.specs.declared.body.SlotUse.{SlotUse}
use Rattle.dep_form.specs.declared.rules.Var.{Var}
use Rattle.dep_form.specs.declared.rules.Rule.{Rule}
use Rattle.dep_form.specs.declared.system.System.{System}
use Rattle.program_form.specs.Programs.{Program}
use Rattle.program_form.specs.Statements.{IsAt}
use Rattle.constraint_form.specs.Asked.{IsReadProgram}
use Rattle.constraint_form.specs.Variables.{Meaning, Operand, StandsFor}
use Rattle.constraint_form.specs.Rules.{IsDefined}
use Rattle.signature_tables.specs.Statements.{statement}
use Rattle.variable_tables.specs.Tables.{AreNames}
use Rattle.variable_tables.specs.declared.tables.OperandPlace.{OperandPlace}
use Rattle.variable_tables.specs.declared.tables.VariableTables.{VariableTables}
use Rattle.constraint_rules.specs.One.{IsOne}
use Rattle.constraint_rules.specs.Slots.{IsNumberIn, IsNumberOfUse, IsJoinedBy}
use Rattle.constraint_rules.specs.Statements.{Joining}
use Rattle.constraint_rules.proofs.Ones.{one_same}
use Rattle.constraint_rules.proofs.SlotNumbers.{to_defined, from_defined}

-- the variable of its own that an operand has
pub own_of : (p : Program) (t : VariableTables) (names : List Meaning) → AreNames p t names → (k : OperandPlace) (o : Option Var) → ((x : Var) → Contains t.operands (k, x) ↔ (o ≡ Some x))
    → IsOne (λ y. StandsFor names y (Operand k.statement k.operand)) o
own_of p t names named k o found = λ y. (λ h. (found y).0 ((named.own k y).0 h), λ e. (named.own k y).1 ((found y).1 e))

module _ (p : Program) (s : System) (names : List Meaning) (asked : IsReadProgram p) (b : Body) (q : Point) (i : Instr) (order : AllPairs (λ (p q : Point). p.pc < q.pc) b.shape.points)
    (point : Contains b.shape.points q) (at : IsAt p (statement b q.pc) b i) where
  to_joining : (r : Rule) → FromOne (IsJoinedBy p s names (statement b q.pc) b) q.uses r → Joining p s names (statement b q.pc) r
  to_joining r (u, among, (x, y, number, stands, e)) =
      (u.operand, (x, y, to_defined p s names asked b q i order point at u.operand x (u, among, (refl, number)), stands, e))

  from_joining : (r : Rule) → Joining p s names (statement b q.pc) r → FromOne (IsJoinedBy p s names (statement b q.pc) b) q.uses r
  from_joining r (k, (x, y, defined, stands, e)) =
      let (u, among, (same, number)) = from_defined p s names asked b q i order point at k x defined in
      (u, among, (x, y, number, subst (λ n. StandsFor names y (Operand (statement b q.pc) n)) (sym same) stands, e))

  pub joined : (old new : List Rule) → Grows old new (FromOne (IsJoinedBy p s names (statement b q.pc) b) q.uses) → Grows old new (Joining p s names (statement b q.pc))
  joined old new g = Grows-same old new (FromOne (IsJoinedBy p s names (statement b q.pc) b) q.uses) (Joining p s names (statement b q.pc)) to_joining from_joining g

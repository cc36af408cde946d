-- What calls throw, and operands, behind the variables of methods.
use Rattle.std.proofs.Common.{◌≡◌, ◌+◌, ℕ, List, length, All, AllPairs, get_or, Contains, sym, subst}
use Rattle.std.proofs.lemmas.Option.{slice_get-get_or}
use Rattle.std.proofs.lemmas.List.Elements.{Contains-get_or}
use Rattle.slicer_ids.specs.Sets.{IsOrderedListOf}
use Rattle.slicer_ids.proofs.GrowingOrder.{reworded}
use Rattle.slicer_ids.specs.Order.{StatementBefore}
use Rattle.slicer_ids.specs.declared.ids.Statement.{Statement}
use Rattle.worklists.specs.Growth.{FromOne}
use Rattle.class_form.specs.Opcodes.{IsCall}
use Rattle.class_form.specs.declared.body.Body.{Body}
use Rattle.dep_form.specs.declared.rules.Var.{Var}
use Rattle.dep_form.specs.declared.rules.MethodVars.{MethodVars}
use Rattle.program_form.specs.Programs.{Program}
use Rattle.program_form.specs.Statements.{HasOpcode}
use Rattle.variable_tables.specs.declared.kinds.Kind.TheVariants.{Calls}
use Rattle.variable_tables.specs.declared.tables.OperandPlace.{OperandPlace}
use Rattle.variable_tables.specs.declared.tables.VariableTables.{VariableTables}
use Rattle.variable_tables.specs.Numbers.{IsCounted, keys_of, numbers_of}
use Rattle.variable_tables.specs.Growth.{IsChosen}
use Rattle.variable_tables.specs.Statements.{AreFollowed}
use Rattle.variable_tables.specs.Members.{AreBodies, MethodRises, IsCallIn}
use Rattle.variable_tables.specs.Operands.{AreInOrder, OperandBefore, IsRead, HasDefinition}
use Rattle.variable_tables.specs.Tables.{AreOfMethods, AreNumbered, AreBehind, AreTables}
use Rattle.variable_tables.specs.LookUps.{AreOrdered}
use Rattle.variable_tables.proofs.MethodFacts.{opcode_to, opcode_from}
use Rattle.signature_tables.specs.Statements.{HasBodies}
use Rattle.class_form.specs.declared.class_file.ClassFile.{ClassFile}

-- the tables of methods are in order
pub methods_in_order : (p : Program) (vs : List MethodVars) → AreOfMethods p vs → All AreInOrder vs
methods_in_order p vs are k d lt =
    let one = are.each (record { 0 = k }) (get_or vs k d) (slice_get-get_or vs k d lt) in
    record { values = one.values.order; caught = one.caught.order }

-- the calls of bodies are those of the program
module _ (p : Program) (bodies : List Body) (are : p.bodies ≡ bodies) where
  call_to : (t : Statement) → FromOne IsCallIn bodies t → HasOpcode p t IsCall
  call_to t (b, among, (e, has)) = opcode_to p Calls bodies are t.method t.pc (b, among, sym e, has)

  call_from : (t : Statement) → HasOpcode p t IsCall → FromOne IsCallIn bodies t
  call_from t is = let (b, among, e, has) = opcode_from p Calls bodies are t.method t.pc is in (b, among, (sym e, has))

  pub calls_are : (ts : List Statement) → IsOrderedListOf StatementBefore ts (FromOne IsCallIn bodies) → IsOrderedListOf StatementBefore ts (λ t. HasOpcode p t IsCall)
  calls_are ts o = reworded StatementBefore ts (FromOne IsCallIn bodies) (λ t. HasOpcode p t IsCall) call_to call_from o

-- what calls throw and operands have, from the parts of the tables
pub behind_of : (p : Program) (n a m : ℕ) (t : VariableTables) (vs : List MethodVars) (exceptions : List (Statement × Var)) (operands : List (OperandPlace × Var)) → t.methods ≡ vs
    → t.exceptions ≡ exceptions → t.operands ≡ operands → t.vars ≡ m → IsOrderedListOf StatementBefore (keys_of exceptions) (λ s. HasOpcode p s IsCall)
    → IsChosen OperandBefore (keys_of operands) (IsRead p) (HasDefinition p vs) → IsCounted n (numbers_of exceptions) a → IsCounted a (numbers_of operands) m → AreBehind p n t
behind_of p n a m t vs exceptions operands methods_are exceptions_are operands_are vars_are calls chosen first second = record {
  calls = subst (λ (es : List (Statement × Var)). IsOrderedListOf StatementBefore (keys_of es) (λ s. HasOpcode p s IsCall)) (sym exceptions_are) calls;
  operands = subst (λ (ws : List MethodVars). IsChosen OperandBefore (keys_of t.operands) (IsRead p) (HasDefinition p ws)) (sym methods_are)
      (subst (λ (os : List (OperandPlace × Var)). IsChosen OperandBefore (keys_of os) (IsRead p) (HasDefinition p vs)) (sym operands_are) chosen);
  numbered = (
    a,
    subst (λ (es : List (Statement × Var)). IsCounted n (numbers_of es) a) (sym exceptions_are) first,
    subst (λ k. IsCounted a (numbers_of t.operands) k) (sym vars_are) (subst (λ (os : List (OperandPlace × Var)). IsCounted a (numbers_of os) m) (sym operands_are) second),
  );
}

-- what is known of the bodies of a program
pub bodies_known : (classes : List ClassFile) (bodies : List Body) → HasBodies classes bodies → AreFollowed bodies → AreBodies bodies
bodies_known classes bodies (p, of, e) followed = record {
  order = subst (λ (bs : List Body). AllPairs MethodRises bs) e of.read.bodies;
  instrs = λ k d lt. of.read.instructions (get_or bodies k d) (subst (λ (bs : List Body). Contains bs (get_or bodies k d)) (sym e) (Contains-get_or bodies k d lt));
  followed = followed;
}

-- tables are in order
pub tables_ordered : (p : Program) (n : ℕ) (t : VariableTables) → AreTables p n t → AreOrdered t
tables_ordered p n t are =
    let (k, numbered, behind) = are.numbered in
    record { methods = methods_in_order p t.methods are.methods; exceptions = behind.calls.order; operands = behind.operands.order }

-- the tables, from their parts
pub tables_of : (p : Program) (foreign : ℕ) (t : VariableTables) (vs : List MethodVars) (first n : ℕ) → first ≡ length p.fields + foreign → t.methods ≡ vs → AreOfMethods p vs
    → AreNumbered first vs n → AreBehind p n t → AreTables p foreign t
tables_of p foreign t vs first n begin same of numbered behind = record {
  methods = subst (λ (ws : List MethodVars). AreOfMethods p ws) (sym same) of;
  numbered = (n, subst (λ k. AreNumbered k t.methods n) begin (subst (λ (ws : List MethodVars). AreNumbered first ws n) (sym same) numbered), behind);
}

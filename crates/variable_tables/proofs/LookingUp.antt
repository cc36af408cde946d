-- What look-ups of variables find.
use Rattle.std.proofs.Common.{◌≡◌, ◌+◌, ℕ, List, length, Option, Some, None, Contains, refl, sym, ap, subst, ◌∙◌}
use Rattle.std.specs.Prelude.{◌↔◌, slice_get}
use Rattle.std.proofs.lemmas.Option.{none-some, same_Some}
use Rattle.std.proofs.lemmas.List.Elements.{All-contains}
use Rattle.slicer_ids.specs.Sets.{IsOrderedListOf}
use Rattle.slicer_ids.proofs.Ordered.{one_ordered}
use Rattle.slicer_ids.specs.declared.ids.MethodId.{MethodId}
use Rattle.slicer_ids.specs.declared.ids.Statement.{Statement}
use Rattle.class_form.specs.declared.body.Body.{Body}
use Rattle.class_form.specs.declared.body.Instr.{Instr}
use Rattle.class_form.specs.declared.body.Point.{Point}
use Rattle.class_form.specs.declared.body.Def.{Def}
use Rattle.class_form.specs.declared.body.Def.TheVariants.{Formal, Value, Caught}
use Rattle.class_form.proofs.Indices.{index_in, there_at}
use Rattle.dep_form.specs.declared.rules.Var.{Var}
use Rattle.dep_form.specs.declared.rules.MethodVars.{MethodVars}
use Rattle.dep_form.specs.declared.call_site.CallSite.{CallSite}
use Rattle.dep_form.specs.declared.system.System.{System}
use Rattle.program_form.specs.Programs.{Program}
use Rattle.program_form.specs.Statements.{IsAt}
use Rattle.program_form.specs.Facts.{ResultOf, ThrownBy, ExceptionOf, StaticNamed, variable_of}
use Rattle.program_form.specs.Nodes.{at}
use Rattle.program_form.specs.Systems.{VariableNumber, ForeignBefore, IsForeignStatic, of_value, of_argument, of_result, of_thrown, of_caught, of_exception, of_foreign}
use Rattle.constraint_form.specs.Asked.{IsReadProgram}
use Rattle.constraint_form.specs.Variables.{Meaning, OperandNumber, of_definition, of_operand}
use Rattle.constraint_form.proofs.OnePlace.{one_place}
use Rattle.constraint_form.proofs.SiteNumbers.{foreign_asym}
use Rattle.signature_tables.specs.Statements.{statement}
use Rattle.variable_tables.specs.declared.tables.VariableTables.{VariableTables}
use Rattle.variable_tables.specs.Operands.{DefNumber, IsDefinedAs, HasDefinition}
use Rattle.variable_tables.specs.Tables.{HasVariables, AreNames, AreTables, thrown_by_call, thrown_by_entry}
use Rattle.variable_tables.proofs.Keys.{contains_key}
use Rattle.variable_tables.proofs.Listing.{map_at, mapped, same_var}
use Rattle.variable_tables.proofs.OperandFacts.{alone_from, alone_to}

module _ (p : Program) (s : System) (t : VariableTables) (has : HasVariables s t) where
  pub of_system : (m : MethodId) (v : MethodVars) → slice_get s.methods m.0 ≡ Some v → slice_get t.methods m.0 ≡ Some v
  of_system m v e = subst (λ (vs : List MethodVars). slice_get vs m.0 ≡ Some v) has.methods e

  pub to_system : (m : MethodId) (v : MethodVars) → slice_get t.methods m.0 ≡ Some v → slice_get s.methods m.0 ≡ Some v
  to_system m v e = subst (λ (vs : List MethodVars). slice_get vs m.0 ≡ Some v) (sym has.methods) e

  -- the variables of definitions
  pub def_to : (m : MethodId) (d : Def) (x : Var) → VariableNumber p s (variable_of m d) x → DefNumber t.methods m d x
  def_to m (Formal i) x (of_argument {n} {m = w} is c) = (w, of_system m w is, c)
  def_to m (Value pc) x (of_value {t = u} {m = w} is c) = (w, of_system m w is, c)
  def_to m (Caught h) x (of_caught {n} {m = w} is c) = (w, of_system m w is, c)

  pub def_from : (m : MethodId) (d : Def) (x : Var) → DefNumber t.methods m d x → VariableNumber p s (variable_of m d) x
  def_from m (Formal i) x (v, there, c) = of_argument (to_system m v there) c
  def_from m (Value pc) x (v, there, c) = of_value (to_system m v there) c
  def_from m (Caught h) x (v, there, c) = of_caught (to_system m v there) c

  pub def_exact : (m : MethodId) (d : Def) (o : Option Var) → ((x : Var) → DefNumber t.methods m d x ↔ (o ≡ Some x)) → (x : Var) → VariableNumber p s (variable_of m d) x ↔ (o ≡ Some x)
  def_exact m d o exact x = (λ n. (exact x).0 (def_to m d x n), λ e. def_from m d x ((exact x).1 e))

  -- .. of what calls throw
  abbrev Thrown : Type 0
  Thrown = Option Statement × Var

  pub exception_to : (u : Statement) (x : Var) (i : ℕ) (k : CallSite) → slice_get s.calls i ≡ Some k → k.place ≡ Some u → k.exception ≡ x → Contains t.exceptions (u, x)
  exception_to u x i k is place e =
      let there = subst (λ xs. slice_get xs i ≡ Some (thrown_by_call k)) has.exceptions (mapped thrown_by_call s.calls i k is) in
      let (w, at, same) = map_at thrown_by_entry t.exceptions i (thrown_by_call k) there in
      let first : w.0 ≡ u = same_Some w.0 u (ap (λ (z : Thrown). z.0) same ∙ place) in
      let second : w.1 ≡ x = ap (λ (z : Thrown). z.1) same ∙ e in
      subst (λ z. Contains t.exceptions (u, z)) second (subst (λ z. Contains t.exceptions (z, w.1)) first (there_at t.exceptions i w at))

  pub exception_from : (u : Statement) (x : Var) → Contains t.exceptions (u, x) → VariableNumber p s (ExceptionOf u) x
  exception_from u x c =
      let (i, at) = index_in t.exceptions (u, x) c in
      let there = subst (λ xs. slice_get xs i ≡ Some (thrown_by_entry (u, x))) (sym has.exceptions) (mapped thrown_by_entry t.exceptions i (u, x) at) in
      let (k, is, same) = map_at thrown_by_call s.calls i (thrown_by_entry (u, x)) there in
      of_exception (record { 0 = i }) is (ap (λ (z : Thrown). z.0) same) (ap (λ (z : Thrown). z.1) same)

  exception_number : (u : Statement) (x : Var) → VariableNumber p s (ExceptionOf u) x → Contains t.exceptions (u, x)
  exception_number u x (of_exception {t = w} c {k} is place e) = exception_to u x c.0 k is place e

  pub exception_exact : (u : Statement) (o : Option Var) → ((x : Var) → Contains t.exceptions (u, x) ↔ (o ≡ Some x)) → (x : Var) → VariableNumber p s (ExceptionOf u) x ↔ (o ≡ Some x)
  exception_exact u o exact x = (λ n. (exact x).0 (exception_number u x n), λ e. exception_from u x ((exact x).1 e))

  -- .. of what a method answers, and of what it throws
  result_number : (m : MethodId) (x : Var) → VariableNumber p s (ResultOf m) x → (v : MethodVars) × (slice_get t.methods m.0 ≡ Some v) × (v.result ≡ Some x)
  result_number m x (of_result {n} {m = v} is c) = (v, of_system m v is, c)

  pub result_exact : (m : MethodId) (v : MethodVars) → slice_get t.methods m.0 ≡ Some v → (x : Var) → VariableNumber p s (ResultOf m) x ↔ (v.result ≡ Some x)
  result_exact m v there x = (
    λ n. let (w, at, e) = result_number m x n in subst (λ (u : MethodVars). u.result ≡ Some x) (same_Some w v (sym at ∙ there)) e,
    λ e. of_result (to_system m v there) e,
  )

  pub no_result : (m : MethodId) → slice_get t.methods m.0 ≡ None → (x : Var) → VariableNumber p s (ResultOf m) x ↔ (None ≡ Some x)
  no_result m none x = (λ n. let (w, at, e) = result_number m x n in absurd (none-some w (sym none ∙ at)), λ e. absurd (none-some x e))

  thrown_number : (m : MethodId) (x : Var) → VariableNumber p s (ThrownBy m) x → (v : MethodVars) × (slice_get t.methods m.0 ≡ Some v) × (v.thrown ≡ x)
  thrown_number m x (of_thrown {n} {m = v} is c) = (v, of_system m v is, c)

  pub thrown_exact : (m : MethodId) (v : MethodVars) → slice_get t.methods m.0 ≡ Some v → (x : Var) → VariableNumber p s (ThrownBy m) x ↔ (Some v.thrown ≡ Some x)
  thrown_exact m v there x = (
    λ n. let (w, at, e) = thrown_number m x n in ap (λ z. Some z) (subst (λ (u : MethodVars). u.thrown ≡ x) (same_Some w v (sym at ∙ there)) e),
    λ e. of_thrown (to_system m v there) (same_Some v.thrown x e),
  )

  pub nothing_thrown : (m : MethodId) → slice_get t.methods m.0 ≡ None → (x : Var) → VariableNumber p s (ThrownBy m) x ↔ (None ≡ Some x)
  nothing_thrown m none x = (λ n. let (w, at, e) = thrown_number m x n in absurd (none-some w (sym none ∙ at)), λ e. absurd (none-some x e))

-- .. of static fields that the folder doesn't have
module _ (p : Program) (s : System) (ns : List (List ℕ × List ℕ)) (listed : IsOrderedListOf ForeignBefore ns (IsForeignStatic p)) where
  named_place : (name descriptor : List ℕ) (x : Var) → VariableNumber p s (StaticNamed name descriptor) x
      → (i : ℕ) × (slice_get ns i ≡ Some (name, descriptor)) × (x.0 ≡ length p.fields + i)
  named_place name descriptor x (of_foreign {ns = ms} {name = a} {descriptor = b} i others there e) =
      let same : ms ≡ ns = one_ordered ForeignBefore (IsForeignStatic p) ms ns (λ u w v z. foreign_asym u w) others listed in
      (i, subst (λ zs. slice_get zs i ≡ Some (name, descriptor)) same there, e)

  pub named_exact : (name descriptor : List ℕ) (k : ℕ) (v : Var) → slice_get ns k ≡ Some (name, descriptor) → v.0 ≡ length p.fields + k
      → (x : Var) → VariableNumber p s (StaticNamed name descriptor) x ↔ (Some v ≡ Some x)
  named_exact name descriptor k v at number x = (
    λ n.
        let (i, there, e) = named_place name descriptor x n in
        let same : i ≡ k = one_place ForeignBefore ns listed.order (λ z u. foreign_asym z z u u) i k (name, descriptor) there at in
        ap (λ z. Some z) (same_var v x (number ∙ ap (λ j. length p.fields + j) (sym same) ∙ sym e)),
    λ e. of_foreign k listed at (ap (λ (z : Var). z.0) (sym (same_Some v x e)) ∙ number),
  )

  pub not_named : (name descriptor : List ℕ) → (Contains ns (name, descriptor) → ⊥) → (x : Var) → VariableNumber p s (StaticNamed name descriptor) x ↔ (None ≡ Some x)
  not_named name descriptor never x = (
    λ n. let (i, there, e) = named_place name descriptor x n in absurd (never (there_at ns i (name, descriptor) there)),
    λ e. absurd (none-some x e),
  )

-- .. of operands
module _ (p : Program) (s : System) (names : List Meaning) (t : VariableTables) (foreign : ℕ) (b : Body) (q : Point) (instr : Instr) (n : ℕ)
    (asked : IsReadProgram p) (there : IsAt p (statement b q.pc) b instr) (tables : AreTables p foreign t) (named : AreNames p t names) (has : HasVariables s t) where
  definition : (x : Var) → IsDefinedAs t.methods b q.pc n x → OperandNumber p s names (statement b q.pc) n x
  definition x (d, alone, number) =
      let whole = alone_to p asked b q instr there n d alone in
      of_definition whole.0 whole.1 (def_from p s t has b.method d x number)

  pub defined_exact : (v : Var) → ((x : Var) → IsDefinedAs t.methods b q.pc n x ↔ (Some v ≡ Some x)) → (x : Var) → OperandNumber p s names (statement b q.pc) n x ↔ (Some v ≡ Some x)
  defined_exact v exact x = (to, λ e. definition x ((exact x).1 e))
    where
      to : OperandNumber p s names (statement b q.pc) n x → Some v ≡ Some x
      to (of_definition {d} is only vn) = (exact x).0 (d, alone_from p asked b q instr there n d (is, only), def_to p s t has b.method d x vn)
      to (of_operand stands) =
          let (k, numbered, behind) = tables.numbered in
          let own : Contains t.operands (record { statement = statement b q.pc; operand = n }, x) = (named.own (record { statement = statement b q.pc; operand = n }) x).0 stands in
          let (d, alone, number) = (exact v).1 refl in
          absurd (All-contains (λ z. HasDefinition p t.methods z → ⊥) _ (record { statement = statement b q.pc; operand = n }) behind.operands.apart (contains_key t.operands (record { statement = statement b q.pc; operand = n }) x own)
          (d, v, alone_to p asked b q instr there n d alone, number))

  pub own_exact : (o : Option Var) → ((x : Var) → IsDefinedAs t.methods b q.pc n x ↔ (None ≡ Some x)) → ((x : Var) → Contains t.operands (record { statement = statement b q.pc; operand = n }, x) ↔ (o ≡ Some x))
      → (x : Var) → OperandNumber p s names (statement b q.pc) n x ↔ (o ≡ Some x)
  own_exact o never exact x = (to, λ e. of_operand ((named.own (record { statement = statement b q.pc; operand = n }) x).1 ((exact x).1 e)))
    where
      to : OperandNumber p s names (statement b q.pc) n x → o ≡ Some x
      to (of_definition {d} is only vn) = absurd (none-some x ((never x).0 (d, alone_from p asked b q instr there n d (is, only), def_to p s t has b.method d x vn)))
      to (of_operand stands) = (exact x).0 ((named.own (record { statement = statement b q.pc; operand = n }) x).0 stands)

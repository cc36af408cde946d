-- What the value of a statement may be, by what its method has.
use Rattle.std.proofs.Common.{◌≡◌, ◌⊎◌, ◌↔◌, ℕ, List, Contains, Some, inl, inr, refl, sym, ap, subst, ◌∙◌, ◌<◌, arith}
use Rattle.std.specs.Prelude.{slice_get}
use Rattle.std.proofs.lemmas.Option.{same_Some, slice_get_within}
use Rattle.class_form.proofs.Indices.{index_in, there_at}
use Rattle.class_form.specs.declared.body.SlotUse.{SlotUse}
use Rattle.dep_form.specs.declared.call_site.CallSite.{CallSite}
use Rattle.dep_form.specs.declared.rules.MethodVars.{MethodVars}
use Rattle.slicer_ids.specs.declared.ids.SiteId.{SiteId}
use Rattle.slicer_ids.specs.declared.ids.Statement.{Statement}
use Rattle.class_form.specs.Opcodes.{IsCall}
use Rattle.class_form.specs.Reaching.{HoldsAt}
use Rattle.class_form.specs.declared.body.Body.{Body}
use Rattle.class_form.specs.declared.body.Def.{Def}
use Rattle.class_form.specs.declared.body.Def.TheVariants.{Formal, Value, Caught}
use Rattle.class_form.specs.declared.body.Instr.{Instr}
use Rattle.class_form.specs.declared.body.Point.{Point}
use Rattle.dep_form.specs.declared.rules.Var.{Var}
use Rattle.fact_form.specs.ValueNumbers.{ValueSite, OperandSite, made, passed_on, given, thrown}
use Rattle.program_code.specs.Codes.{IsProgramOfCode}
use Rattle.program_code.proofs.OneInstruction.{coded_body, one_at, one_body, one_by_order}
use Rattle.program_form.specs.Facts.{variable_of}
use Rattle.program_form.specs.Programs.{Program}
use Rattle.program_form.specs.Statements.{HasOpcode, IsAt, OperandIs}
use Rattle.program_form.specs.Systems.{VariableNumber, of_value, of_argument, of_caught}
use Rattle.program_form.specs.Values.{PassesOn}
use Rattle.value_tables.specs.Methods.{IsMethod, IsVarOf}
use Rattle.value_tables.specs.Values.{OperandHas, PointHas}
use Rattle.value_tables.specs.declared.method.Method.{Method}

module _ (p : Program) (coded : IsProgramOfCode p) (x : Method) (is : IsMethod x) (among : Contains p.bodies x.body.now) (q : Point) (has : Contains x.body.now.shape.points q) where
  abbrev b : Body
  b = x.body.now

  abbrev t : Statement
  t = record { method = b.method; pc = q.pc }

  -- the instruction at the point
  pub instr : (i : Instr) × IsAt p t b i × (q.op ≡ i.op)
  instr =
      let each = (coded_body p coded b among).is.shape.2.depths.2.each q has in
      (each.0, (among, refl, each.1.0, sym each.2.pc, (q, (has, refl))), each.2.op)

  number_of : (d : Def) (v : Var) → IsVarOf x.vars.now d v → VariableNumber p x.system.now (variable_of b.method d) v
  number_of (Formal i) v h = of_argument is.vars h
  number_of (Value pc) v h = of_value is.vars h
  number_of (Caught c) v h = of_caught is.vars h

  pub to_value : (h : SiteId) → PointHas x q h → ValueSite p x.system.now t h
  to_value h (inl (v, values, holds)) = made (b, instr.0, instr.1, tt) (of_value is.vars values) holds
  to_value h (inr (inl (i, passes, (u, use', (e, (d, holds, (v, var, site))))))) =
      passed_on {i = i} (b, instr.0, instr.1, subst (PassesOn i) instr.2 passes)
      (d, v, (b, instr.0, instr.1, (q, (has, refl), u, use', e, holds)), number_of d v var, site)
  to_value h (inr (inr (c, k, (l, at, place), there, inl (v, arg, site)))) =
      let same : l ≡ k = same_Some l k (sym at ∙ there) in
      let j = index_in k.arguments v arg in
      given {i = j.0} c (there, subst (λ (z : CallSite). z.place ≡ Some t) same place) (slice_get_within k.arguments j.0 v j.1) (v, j.1, site)
  to_value h (inr (inr (c, k, (l, at, place), there, inr site))) =
      let same : l ≡ k = same_Some l k (sym at ∙ there) in
      thrown c (there, subst (λ (z : CallSite). z.place ≡ Some t) same place) site

  same_vars : (m : MethodVars) → slice_get x.system.now.methods b.method.0 ≡ Some m → m ≡ x.vars.now
  same_vars m at = same_Some m x.vars.now (sym at ∙ is.vars)

  var_of : (d : Def) (v : Var) → VariableNumber p x.system.now (variable_of b.method d) v → IsVarOf x.vars.now d v
  var_of (Formal i) v (of_argument {m = m} vars at) = subst (λ (z : MethodVars). slice_get z.formals i ≡ Some v) (same_vars m vars) at
  var_of (Value pc) v (of_value {m = m} vars at) = subst (λ (z : MethodVars). Contains z.values (pc, v)) (same_vars m vars) at
  var_of (Caught c) v (of_caught {m = m} vars at) = subst (λ (z : MethodVars). Contains z.caught (c, v)) (same_vars m vars) at

  opcode_is : (K : ℕ → Type 0) → HasOpcode p t K → K q.op
  opcode_is K (a, j, at, kind) =
      let same = one_at p coded t a b j instr.0 at instr.1 in
      subst K (sym instr.2) (subst (λ (z : Instr). K z.op) same.1 kind)

  -- the point of an operand is this one
  pub operand_is : (i : ℕ) (d : Def) → OperandIs p t i d → (u : SlotUse) × Contains q.uses u × (u.operand ≡ i) × HoldsAt b.shape q.pc u.slot d
  operand_is i d (a, j, at, (r, (point, pc), u, use', e, holds)) =
      let same : a ≡ b = one_body p coded a b at.0 among at.1 in
      let here = subst (λ (z : Body). Contains z.shape.points r) same point in
      let one' : r ≡ q = one_by_order (λ (y z : Point). y.pc < z.pc) b.shape.points r q is.points (λ lt. omega (arith, lt, pc)) (λ lt. omega (arith, lt, pc)) here has in
      (u, subst (λ (z : Point). Contains z.uses u) one' use', e, subst (λ (z : Body). HoldsAt z.shape q.pc u.slot d) same holds)

  pub to_operand : (i : ℕ) (h : SiteId) → OperandHas x q i h → OperandSite p x.system.now t i h
  to_operand i h (u, use', (e, (d, holds, (v, var, site)))) = (d, v, (b, instr.0, instr.1, (q, (has, refl), u, use', e, holds)), number_of d v var, site)

  pub of_operand : (i : ℕ) (h : SiteId) → OperandSite p x.system.now t i h → OperandHas x q i h
  of_operand i h (d, v, operand, number, site) =
      let u = operand_is i d operand in
      (u.0, u.1, (u.2, (d, u.3, (v, var_of d v number, site))))

  pub of_value' : (h : SiteId) → ValueSite p x.system.now t h → PointHas x q h
  of_value' h (made {x = v} o number site) = inl (v, var_of (Value q.pc) v number, site)
  of_value' h (passed_on {i = i} o (d, v, operand, number, site)) =
      let u = operand_is i d operand in
      inr (inl (i, opcode_is (PassesOn i) o, (u.0, u.1, (u.2, (d, u.3, (v, var_of d v number, site))))))
  of_value' h (given c {k = k} (there, place) lt (v, at, site)) = inr (inr (c, k, (k, there, place), there, inl (v, there_at k.arguments _ v at, site)))
  of_value' h (thrown c {k = k} (there, place) site) = inr (inr (c, k, (k, there, place), there, inr site))

-- What is known of a program is known of its system, by numbers: parts of facts.
use Rattle.std.proofs.Common.{◌≡◌, ◌⊎◌, ℕ, Bool, List, length, Option, Some, None, refl, sym, ap, subst, inl, inr, arith}
use Rattle.std.specs.Prelude.{slice_get}
use Rattle.std.proofs.lemmas.Option.{slice_get_within}
use Rattle.slicer_ids.specs.declared.ids.MethodId.{MethodId}
use Rattle.slicer_ids.specs.declared.ids.ClassId.{ClassId}
use Rattle.slicer_ids.specs.declared.ids.SiteId.{SiteId}
use Rattle.slicer_ids.specs.declared.ids.FieldId.{FieldId}
use Rattle.slicer_ids.specs.declared.ids.CallId.{CallId}
use Rattle.slicer_ids.specs.declared.ids.Statement.{Statement}
use Rattle.class_form.specs.Pools.{MemberKey}
use Rattle.class_form.specs.Opcodes.{IsThrow, IsVirtualCall, IsGetStatic, IsPutStatic}
use Rattle.class_form.specs.Classes.{Declared}
use Rattle.class_form.specs.Resolution.{FirstIn, here, later, DeclaresInstance}
use Rattle.class_form.specs.declared.class_file.Handler.{Handler}
use Rattle.class_form.specs.declared.body.Def.{Def}
use Rattle.class_form.proofs.Indices.{index_at}
use Rattle.dep_form.specs.declared.rules.Var.{Var}
use Rattle.dep_form.specs.declared.rules.Rule.{Rule}
use Rattle.dep_form.specs.declared.rules.MethodVars.{MethodVars}
use Rattle.dep_form.specs.declared.call_site.CallSite.{CallSite}
use Rattle.dep_form.specs.declared.system.System.{System}
use Rattle.dep_form.specs.PointsTo.{Reached, Has, Cell, Calls, OutsideAt}
use Rattle.dep_form.specs.Constraints.{SystemFact, InForce, ArgumentHas, IsMethodVars, Passes, elements_field, state_field, copy}
use Rattle.program_form.specs.Programs.{Program, MethodOf, HasFormal}
use Rattle.program_form.specs.Statements.{HasOpcode, OperandIs, NamesMember, IsInstance}
use Rattle.program_form.specs.Sites.{Site}
use Rattle.program_form.specs.Facts.{Variable, ValueOf, ArgumentOf, ResultOf, ThrownBy, StaticField, StaticNamed, variable_of, FieldName, ProgramFact, IsStaticVariable, IsState, SelectsTarget, OperandHas, IsRaised, Takes}
use Rattle.program_form.specs.Systems.{SiteNumber, FieldNumber, CallNumber, VariableNumber, Counterpart, IsCallOf, of_argument, of_result, of_thrown, of_exception}
use Rattle.program_form.specs.Systems as tied
use Rattle.program_form.proofs.Visiting.{named_or_outside}
use Rattle.constraint_form.specs.Asked.{IsReadProgram}
use Rattle.constraint_form.specs.Variables.{Meaning, OperandNumber, of_definition, of_operand, ReadsFirst, MakesObject}
use Rattle.constraint_form.specs.Signatures.{SignatureNumber}
use Rattle.constraint_form.specs.Rules.{IsConstraint, IsFilter, IsHandlerFilter, IsRaisedAs, joins}
use Rattle.constraint_form.specs.ConstraintSystems.{AreTables}
use Rattle.constraint_form.proofs.Instructions.{kind, one_instance}
use Rattle.constraint_form.proofs.SiteNumbers.{one_site_number}
use Rattle.constraint_form.proofs.Numbers.{one_number, one_field_number, one_call_number}
use Rattle.constraint_form.proofs.SitePassing.{to_passes}
use Rattle.constraint_form.proofs.SystemAdds.{Known, known}

module _ (p : Program) (s : System) (names : List Meaning) (asked : IsReadProgram p) (tables : AreTables p s names) where
  -- a fact of the program has a counterpart, by one number
  pub one_counterpart : {f : ProgramFact} {g h : SystemFact} → Counterpart p s f g → Counterpart p s f h → g ≡ h
  one_counterpart tied.reached tied.reached = refl
  one_counterpart (tied.has {v} {h} {x} {n} a b) (tied.has {x = y} {n = m} c d) =
      let vs = one_number p s names tables.variables v x y a c in
      let ns = one_site_number p n m h b d in
      cc (vs, ns)
  one_counterpart (tied.cell {b} {h} {f} {a} {n} {g} x y z) (tied.cell {a = a'} {n = n'} {g = g'} x' y' z') =
      let bs = one_site_number p a a' b x x' in
      let gs = one_field_number s f g g' y y' in
      let ns = one_site_number p n n' h z z' in
      cc (bs, gs, ns)
  one_counterpart (tied.calls {t} {c} x) (tied.calls {c = d} y) = let cs = one_call_number p s names tables.calls t c d x y in cc cs
  one_counterpart (tied.static_outside {t} {c} x) (tied.static_outside {c = d} y) = let cs = one_call_number p s names tables.calls t c d x y in cc cs
  one_counterpart (tied.outside {t} {c} {h} {n} x z) (tied.outside {c = d} {n = m} y w) =
      let cs = one_call_number p s names tables.calls t c d x y in
      let ns = one_site_number p n m h z w in
      cc (cs, ns)

  -- its counterpart is known
  abbrev pub Up : ProgramFact → Type 0
  Up f = (g : SystemFact) × Counterpart p s f g × Known s g

  pub at : {f : ProgramFact} {g : SystemFact} → Up f → Counterpart p s f g → Known s g
  at (h, c, k) d = subst (Known s) (one_counterpart c d) k

  pub up_reached : {m : MethodId} → Up (Reached m) → Known s (Reached m)
  up_reached u = at u tied.reached

  pub up_has : {v : Variable} {h : Site} → Up (Has v h) → (x : Var) × (n : SiteId) × VariableNumber p s v x × SiteNumber p n h × Known s (Has x n)
  up_has (g, tied.has {x} {n} a b, k) = (x, n, a, b, k)

  pub up_cell : {b h : Site} {f : FieldName} → Up (Cell b f h) →
      (a : SiteId) × (g : FieldId) × (n : SiteId) × SiteNumber p a b × FieldNumber s f g × SiteNumber p n h × Known s (Cell a g n)
  up_cell (x, tied.cell {a} {n} {g} i j l, k) = (a, g, n, i, j, l, k)

  pub up_calls : {t : Statement} {m : MethodId} → Up (Calls t m) → (c : CallId) × CallNumber s t c × Known s (Calls c m)
  up_calls (x, tied.calls {c} n, k) = (c, n, k)

  -- .. at the call's number
  pub up_outside : {t : Statement} {o : Option Site} (c : CallId) → CallNumber s t c → Up (OutsideAt t o) → (r : Option SiteId) × Known s (OutsideAt c r)
  up_outside {t} c x (g, tied.static_outside {c = d} y, k) = (None, subst (λ z. Known s (OutsideAt z None)) (one_call_number p s names tables.calls t d c y x) k)
  up_outside {t} c x (g, tied.outside {c = d} {n} y z, k) = (Some n, subst (λ e. Known s (OutsideAt e (Some n))) (one_call_number p s names tables.calls t d c y x) k)

  pub outside_site : {t : Statement} {h : Site} → Up (OutsideAt t (Some h)) → (n : SiteId) × SiteNumber p n h
  outside_site (g, tied.outside {n} y z, k) = (n, z)

  -- a constraint of a method that is reached is in force
  pub force : (t : Statement) {r : Rule} → Up (Reached t.method) → IsConstraint p s names t.method r → InForce s (Known s) r
  force t {r} u c = (t.method, (tables.constraints t.method r).1 c, inr (up_reached u))

  pub value : (t : Statement) (Kind : ℕ → Type 0) → ((op : ℕ) → Kind op → MakesObject op) → HasOpcode p t Kind → (x : Var) × VariableNumber p s (ValueOf t) x
  value t Kind f o = tables.variables.whole (ValueOf t) (kind p asked t Kind MakesObject f o)

  -- the site that an operand may be has a number
  pub operand_site : (t : Statement) (i : ℕ) (h : Site) → OperandHas p Up t i h → (n : SiteId) × SiteNumber p n h
  operand_site t i h (d, is, u) = let x = up_has u in (x.1, x.3)

  -- the variable of an operand may be what the operand may be
  pub up_operand : (t : Statement) (i : ℕ) (x : Var) → OperandNumber p s names t i x → Up (Reached t.method) → (h : Site) (n : SiteId) → SiteNumber p n h →
      OperandHas p Up t i h → Known s (Has x n)
  up_operand t i x (of_definition {d} is only vn) r h n sn (e, has, u) = at (subst (λ z. Up (Has (variable_of t.method z) h)) (only e has) u) (tied.has vn sn)
  up_operand t i x (of_operand stands) r h n sn (e, has, u) =
      let (y, m, vn, sm, k) = up_has u in
      subst (λ z. Known s (Has x z)) (one_site_number p m n h sm sn) (known s (copy (force t r (joins (e, has, vn) stands)) k tt))

  -- .. as the argument of a call
  pub argument_number : (t : Statement) (c : CallId) (k : CallSite) (i : ℕ) (d : Def) → IsCallOf s t c k → OperandIs p t i d → (a : Var) × (slice_get k.arguments i ≡ Some a)
  argument_number t c k i d of is =
      let (m, type, instance, references) = tables.calls.types t c k of in
      let lt = asked.operands t m k.instance i d type instance is in
      index_at k.arguments i (omega (arith, lt, ap (λ (xs : List Bool). length xs) references, k.as_many))

  pub up_argument : (t : Statement) (c : CallId) (k : CallSite) (i : ℕ) → IsCallOf s t c k → Up (Reached t.method) → (h : Site) (n : SiteId) → SiteNumber p n h →
      OperandHas p Up t i h → ArgumentHas s (Known s) k i n
  up_argument t c k i of r h n sn o =
      let (a, there) = argument_number t c k i o.0 of o.1 in
      (a, there, up_operand t i a (tables.calls.arguments t c k i a of there) r h n sn o)

  -- whether a call has a receiver
  pub has_receiver : (t : Statement) (c : CallId) (k : CallSite) (b : Bool) → IsCallOf s t c k → IsInstance p t b → k.instance ≡ b
  has_receiver t c k b of is = one_instance p asked t k.instance b (tables.calls.types t c k of).2 is

  -- the variables of a method
  pub formal_of : (m : MethodId) (i : ℕ) (x : Var) → VariableNumber p s (ArgumentOf m i) x → (v : MethodVars) × IsMethodVars s m v × (slice_get v.formals i ≡ Some x)
  formal_of m i x (of_argument {m = v} is e) = (v, is, e)

  pub result_of : (m : MethodId) (x : Var) → VariableNumber p s (ResultOf m) x → (v : MethodVars) × IsMethodVars s m v × (v.result ≡ Some x)
  result_of m x (of_result {m = v} is e) = (v, is, e)

  pub thrown_of : (m : MethodId) (x : Var) → VariableNumber p s (ThrownBy m) x → (v : MethodVars) × IsMethodVars s m v × (v.thrown ≡ x)
  thrown_of m x (of_thrown {m = v} is e) = (v, is, e)

  -- a static variable has a number
  pub static_number : (t : Statement) (v : Variable) → HasOpcode p t (λ op. IsGetStatic op ⊎ IsPutStatic op) → IsStaticVariable p t v → (x : Var) × VariableNumber p s v x
  static_number t v o (inl (f, (key, d, is, found, there), e)) =
      let x = tables.variables.whole (StaticField f) (slice_get_within p.fields f.0 d there) in
      (x.0, subst (λ z. VariableNumber p s z x.0) (sym e) x.1)
  static_number t v o (inr (key, none, is, e)) =
      let x = tables.variables.whole (StaticNamed key.name key.descriptor) (t, key, o, none, is, refl, refl) in
      (x.0, subst (λ z. VariableNumber p s z x.0) (sym e) x.1)

  -- a class that a cast or a handler names has a filter
  pub filter_of : (text : List ℕ) → (keep : Option ClassId) × IsFilter p text keep
  filter_of text = elim (named_or_outside p.classes text) [ inl (c, is) ↦ (Some (record { 0 = c }), is) | inr out ↦ (None, out) ]

  pub up_takes : (t : Statement) (handler : Handler) (h : Site) (n : SiteId) → SiteNumber p n h → Takes p t handler h →
      (keep : Option ClassId) × IsHandlerFilter p t handler keep × Passes s keep n
  up_takes t handler h n sn (inl e) = (None, inl (e, refl), tt)
  up_takes t handler h n sn (inr (text, is, pass)) =
      let (keep, filter) = filter_of text in
      (keep, inr (text, is, filter), to_passes p s names asked tables n h sn text keep filter pass)

  -- what is thrown
  pub up_raised : (t : Statement) (h : Site) → IsRaised p Up t h →
      (x : Var) × (n : SiteId) × IsRaisedAs p s names t x × SiteNumber p n h × Known s (Has x n) × Up (Reached t.method)
  up_raised t h (inl ((r, o), operand)) =
      let throws = kind p asked t IsThrow ReadsFirst (λ op e. inr (inr (inr (inr (inr e))))) o in
      let (x, is) = tables.variables.operands t 0 (inl (refl, throws)) in
      let (n, sn) = operand_site t 0 h operand in
      (x, n, inl (o, is), sn, up_operand t 0 x is r h n sn operand, r)
  up_raised t h (inr ((r, o), u)) = let (x, n, vn, sn, k) = up_has u in (x, n, inr (o, vn), sn, k, r)

  -- the number of a signature
  pub signature : (t : Statement) (key : MemberKey) → HasOpcode p t IsVirtualCall → NamesMember p t key → (g : ℕ) × SignatureNumber p key g
  signature t key o is = tables.types.signatures key (t, key, o, is, refl, refl)

  -- the number of the state of a site
  pub state_number : (h : Site) (f : FieldName) → IsState p h f → (g : FieldId) × FieldNumber s f g
  state_number h f (inl (a, e)) = (elements_field s, subst (λ k. FieldNumber s k (elements_field s)) (sym e) refl)
  state_number h f (inr (name, o, e)) = (state_field s, subst (λ k. FieldNumber s k (state_field s)) (sym e) refl)

-- what is selected is no static method: it has a first argument
first_fits : (Fits : Declared → Type 0) {cs : List ℕ} (d : Declared) → FirstIn Fits cs (Some d) → Fits d
first_fits Fits d (here is fits) = fits
first_fits Fits d (later never rest) = first_fits Fits d rest

pub target_formal : (p : Program) (asked : IsReadProgram p) (u : Statement) (h : Site) (m : MethodId) → SelectsTarget p u h m → HasFormal p m 0
target_formal p asked u h m (key, d, name, c, names, o, of, sel, target) =
    let (k, x, is, declared, not_private, not_static) = first_fits (DeclaresInstance p.classes key) d sel.2 in
    let method : MethodOf p m d x key.name key.descriptor = (target.0, (k, is, declared)) in
    let t = asked.types m d x key.name key.descriptor method in
    (d, x, key.name, key.descriptor, t.0, method, t.1, inr (not_static, omega arith))

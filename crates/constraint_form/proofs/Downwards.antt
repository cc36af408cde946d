-- What is known of a system is known of its program: parts of facts.
use Rattle.std.proofs.Common.{◌≡◌, ◌⊎◌, ℕ, Bool, List, Option, Some, None, subst, ◌∙◌, inl, inr}
use Rattle.std.specs.Prelude.{slice_get}
use Rattle.slicer_ids.specs.declared.ids.MethodId.{MethodId}
use Rattle.slicer_ids.specs.declared.ids.SiteId.{SiteId}
use Rattle.slicer_ids.specs.declared.ids.FieldId.{FieldId}
use Rattle.slicer_ids.specs.declared.ids.CallId.{CallId}
use Rattle.slicer_ids.specs.declared.ids.Statement.{Statement}
use Rattle.class_form.specs.Opcodes.{IsCall, IsThrow}
use Rattle.dep_form.specs.declared.rules.Var.{Var}
use Rattle.dep_form.specs.declared.rules.Rule.{Rule}
use Rattle.dep_form.specs.declared.rules.OutsideRule.{OutsideRule}
use Rattle.dep_form.specs.declared.call_site.CallSite.{CallSite}
use Rattle.dep_form.specs.declared.system.System.{System}
use Rattle.dep_form.specs.Outside.{IsOutsideRule}
use Rattle.dep_form.specs.PointsTo.{Reached, Has, Cell, Calls, OutsideAt, OutsideArgument, OneMayBe, Gives, Writes}
use Rattle.dep_form.specs.Constraints.{SystemFact, InForce, IsRoot, ArgumentHas, IsCallSite, IsState as IsSystemState, IsElements as IsSystemElements}
use Rattle.program_form.specs.Programs.{Program}
use Rattle.program_form.specs.Statements.{HasOpcode, IsInstance}
use Rattle.program_form.specs.Sites.{Site}
use Rattle.program_form.specs.Facts.{Variable, ValueOf, ArgumentOf, ResultOf, ThrownBy, CaughtAt, ExceptionOf, StaticField, StaticNamed, variable_of, FieldName, Elements, OperandHas, IsState, IsElements, OutsideRuleOf, IsRaised}
use Rattle.program_form.specs.Systems.{SiteNumber, FieldNumber, CallNumber, VariableNumber, IsCallOf}
use Rattle.constraint_form.specs.Asked.{IsReadProgram}
use Rattle.constraint_form.specs.Variables.{Meaning, Operand, StandsFor, OperandNumber, of_definition, of_operand}
use Rattle.constraint_form.specs.Rules.{IsConstraint, IsDefined, IsRaisedAs}
use Rattle.constraint_form.specs.ConstraintSystems.{AreTables}
use Rattle.constraint_form.proofs.Instructions.{no_root}
use Rattle.constraint_form.proofs.SiteNumbers.{one_site}
use Rattle.constraint_form.proofs.Numbers.{one_variable, no_operand, one_field, one_caller, one_call_site}
use Rattle.constraint_form.proofs.SitePassing.{from_state, from_elements}
use Rattle.constraint_form.proofs.ProgramAdds.{Known}

module _ (p : Program) (s : System) (names : List Meaning) (asked : IsReadProgram p) (tables : AreTables p s names) where
  -- the method of the variable is reached
  abbrev pub IsRun : Variable → Type 0
  IsRun (ValueOf t) = Known p (Reached t.method)
  IsRun (ArgumentOf m i) = Known p (Reached m)
  IsRun (ResultOf m) = Unit {0}
  IsRun (ThrownBy m) = Unit {0}
  IsRun (CaughtAt m h) = Known p (Reached m)
  IsRun (ExceptionOf t) = Unit {0}
  IsRun (StaticField f) = Unit {0}
  IsRun (StaticNamed name descriptor) = Unit {0}

  -- what the fact means of the program is known
  abbrev pub Down : SystemFact → Type 0
  Down (Reached m) = Known p (Reached m)
  Down (Has x n) =
      (h : Site) × SiteNumber p n h × ((v : Variable) → VariableNumber p s v x → Known p (Has v h) × IsRun v)
      × ((t : Statement) (i : ℕ) → StandsFor names x (Operand t i) → OperandHas p (Known p) t i h)
  Down (Cell a g n) = (b : Site) × (f : FieldName) × (h : Site) × SiteNumber p a b × FieldNumber s f g × SiteNumber p n h × Known p (Cell b f h)
  Down (Calls c m) = (t : Statement) × CallNumber s t c × Known p (Reached t.method) × Known p (Reached m) × Known p (Calls t m)
  Down (OutsideAt c None) = (t : Statement) × CallNumber s t c × Known p (Reached t.method) × Known p (OutsideAt t None)
  Down (OutsideAt c (Some n)) =
      (t : Statement) × (h : Site) × CallNumber s t c × SiteNumber p n h × Known p (Reached t.method) × Known p (OutsideAt t (Some h))

  -- a variable of the program may be the site
  pub has_at : (v : Variable) (x : Var) (n : SiteId) (h : Site) → VariableNumber p s v x → IsRun v → SiteNumber p n h → Known p (Has v h) → Down (Has x n)
  has_at v x n h vn run sn k = (
    h,
    sn,
    λ w wn. subst (λ z. Known p (Has z h) × IsRun z) (one_variable p s names tables.variables v w x vn wn) (k, run),
    λ t i stands. absurd (no_operand p s names tables.variables v x t i vn stands),
  )

  -- what the variable of an operand may be the operand may be
  pub operand_down : (t : Statement) (i : ℕ) (x : Var) (n : SiteId) → OperandNumber p s names t i x → Down (Has x n) → (h : Site) × SiteNumber p n h × OperandHas p (Known p) t i h
  operand_down t i x n (of_definition {d} is only vn) (h, sn, named, operands) = (h, sn, (d, is, (named (variable_of t.method d) vn).0))
  operand_down t i x n (of_operand stands) (h, sn, named, operands) = (h, sn, operands t i stands)

  pub defined_down : (t : Statement) (i : ℕ) (x : Var) (n : SiteId) → IsDefined p s names t i x → Down (Has x n) → (h : Site) × SiteNumber p n h × OperandHas p (Known p) t i h
  defined_down t i x n (d, is, vn) (h, sn, named, operands) = (h, sn, (d, is, (named (variable_of t.method d) vn).0))

  -- a constraint in force
  pub constraint_of : {r : Rule} → InForce s Down r → (m : MethodId) × IsConstraint p s names m r × (IsRoot s m ⊎ Known p (Reached m))
  constraint_of {r} (m, c, run) = (m, (tables.constraints m r).0 c, run)

  pub running : (t : Statement) (K : ℕ → Type 0) → HasOpcode p t K → IsRoot s t.method ⊎ Known p (Reached t.method) → Known p (Reached t.method)
  running t K o (inl root) = absurd (no_root p asked t K o (root ∙ tables.methods))
  running t K o (inr k) = k

  -- a call and its statement
  pub call_of : (t : Statement) (c : CallId) (k : CallSite) → CallNumber s t c → IsCallSite s c k → IsCallOf s t c k
  call_of t c k (l, is, place) at = (at, subst (λ (z : CallSite). z.place ≡ Some t) (one_call_site p s names tables.calls c l k is at) place)

  pub argument_down : (t : Statement) (c : CallId) (k : CallSite) (i : ℕ) (n : SiteId) → IsCallOf s t c k → ArgumentHas s Down k i n →
      (h : Site) × SiteNumber p n h × OperandHas p (Known p) t i h
  argument_down t c k i n of (a, at, d) = operand_down t i a n (tables.calls.arguments t c k i a of at) d

  -- whether a call has a receiver
  pub instance_of : (t : Statement) (c : CallId) (k : CallSite) (b : Bool) → IsCallOf s t c k → k.instance ≡ b → IsInstance p t b
  instance_of t c k b of e = subst (λ z. IsInstance p t z) e (tables.calls.types t c k of).2

  -- what is thrown
  pub raised_down : (t : Statement) (x : Var) (n : SiteId) → IsRaisedAs p s names t x → IsRoot s t.method ⊎ Known p (Reached t.method) → Down (Has x n) →
      (h : Site) × SiteNumber p n h × Known p (Reached t.method) × IsRaised p (Known p) t h
  raised_down t x n (inl (o, is)) run d =
      let (h, sn, operand) = operand_down t 0 x n is d in
      let r = running t IsThrow o run in
      (h, sn, r, inl ((r, o), operand))
  raised_down t x n (inr (o, vn)) run (h, sn, named, operands) =
      let r = running t IsCall o run in
      (h, sn, r, inr ((r, o), (named (ExceptionOf t) vn).0))

  -- a cell, at a site and a field
  pub cell_down : (a : SiteId) (g : FieldId) (n : SiteId) (b : Site) (f : FieldName) → SiteNumber p a b → FieldNumber s f g → Down (Cell a g n) →
      (h : Site) × SiteNumber p n h × Known p (Cell b f h)
  cell_down a g n b f sa fg (b', f', h, sa', fg', sn, k) =
      (h, sn, subst (λ z. Known p (Cell z f h)) (one_site p a b' b sa' sa) (subst (λ z. Known p (Cell b' z h)) (one_field s f' f g fg' fg) k))

  -- outside calls
  module _ (t : Statement) (c : CallId) (k : CallSite) (of : IsCallOf s t c k) (r : OutsideRule) where
    number : CallNumber s t c
    number = (k, of.0, of.1)

    outside_down : (o : Option SiteId) → Down (OutsideAt c o) → Known p (Reached t.method) × ((q : Option Site) × Known p (OutsideAt t q))
    outside_down None (u, n, run, x) =
        let e = one_caller p s names tables.calls u t c n (k, of.0, of.1) in
        (subst (λ (z : Statement). Known p (Reached z.method)) e run, (None, subst (λ z. Known p (OutsideAt z None)) e x))
    outside_down (Some m) (u, h, n, sn, run, x) =
        let e = one_caller p s names tables.calls u t c n (k, of.0, of.1) in
        (subst (λ (z : Statement). Known p (Reached z.method)) e run, (Some h, subst (λ z. Known p (OutsideAt z (Some h))) e x))

    pub argument_outside : (i : ℕ) (n : SiteId) → OutsideArgument Down c k.instance r (ArgumentHas s Down k) (IsSystemState s) i n →
        (h : Site) × SiteNumber p n h × Known p (Reached t.method) × OutsideArgument (Known p) t k.instance r (OperandHas p (Known p) t) (IsState p) i h
    argument_outside i n (inl (x, (u, h, m, sn, run, y))) =
        let e = one_caller p s names tables.calls u t c m (k, of.0, of.1) in
        (h, sn, subst (λ (z : Statement). Known p (Reached z.method)) e run, inl (x, subst (λ z. Known p (OutsideAt z (Some h))) e y))
    argument_outside i n (inr (x, (o, y), a)) =
        let (run, out) = outside_down o y in
        let (h, sn, operand) = argument_down t c k i n of a in
        (h, sn, run, inr (x, out, operand))

    one_outside : (is : List ℕ) (n : SiteId) → OneMayBe Down c k.instance r (ArgumentHas s Down k) (IsSystemState s) is n →
        (h : Site) × SiteNumber p n h × Known p (Reached t.method) × OneMayBe (Known p) t k.instance r (OperandHas p (Known p) t) (IsState p) is h
    one_outside is n (i, x, a) = let (h, sn, run, b) = argument_outside i n a in (h, sn, run, (i, x, b))

    -- what its arguments give
    pub gives_down : (is : List ℕ) (n : SiteId) → Gives Down c k.instance r (ArgumentHas s Down k) (IsSystemState s) is n →
        (h : Site) × SiteNumber p n h × Known p (Reached t.method) × Gives (Known p) t k.instance r (OperandHas p (Known p) t) (IsState p) is h
    gives_down is n (inl one) = let (h, sn, run, x) = one_outside is n one in (h, sn, run, inl x)
    gives_down is n (inr (a, g, one, st, d)) =
        let (b, sa, run, x) = one_outside is a one in
        let (f, state, fg) = from_state p s names asked tables a b sa g st in
        let (h, sn, y) = cell_down a g n b f sa fg d in
        (h, sn, run, inr (b, f, x, state, y))

    -- what it writes
    pub writes_down : (a : SiteId) (g : FieldId) → Writes Down c k.instance r (ArgumentHas s Down k) (IsSystemState s) (IsSystemElements s) a g →
        (b : Site) × (f : FieldName) × SiteNumber p a b × FieldNumber s f g × Known p (Reached t.method)
        × Writes (Known p) t k.instance r (OperandHas p (Known p) t) (IsState p) (IsElements p) b f
    writes_down a g (inl (one, st)) =
        let (b, sa, run, x) = one_outside r.states a one in
        let (f, state, fg) = from_state p s names asked tables a b sa g st in
        (b, f, sa, fg, run, inl (x, state))
    writes_down a g (inr (one, el)) =
        let (b, sa, run, x) = one_outside r.arrays a one in
        let (elements, fg) = from_elements p s names asked tables a b sa g el in
        (b, Elements, sa, fg, run, inr (x, elements))

    -- the rule of the call is the program's
    pub rule_down : slice_get s.outside_rules c.0 ≡ Some r → OutsideRuleOf p t k.instance r
    rule_down at =
        let (m, type, instance, references) = tables.calls.types t c k of in
        (m, type, instance, subst (λ xs. IsOutsideRule k.instance xs r) references (tables.calls.rules c k r of.0 at))

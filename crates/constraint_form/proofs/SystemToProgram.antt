-- What follows over the constraints of a program follows over the program: one lemma for each rule.
use Rattle.std.proofs.Common.{◌≡◌, ◌⊎◌, ℕ, suc, true, false, List, Option, Some, None, refl, sym, subst, ◌∙◌, inl, inr, arith}
use Rattle.std.proofs.lemmas.Option.{same_Some}
use Rattle.slicer_ids.specs.declared.ids.MethodId.{MethodId}
use Rattle.slicer_ids.specs.declared.ids.ClassId.{ClassId}
use Rattle.slicer_ids.specs.declared.ids.SiteId.{SiteId}
use Rattle.slicer_ids.specs.declared.ids.FieldId.{FieldId}
use Rattle.slicer_ids.specs.declared.ids.CallId.{CallId}
use Rattle.slicer_ids.specs.declared.ids.Statement.{Statement}
use Rattle.class_form.specs.Pools.{MemberKey}
use Rattle.class_form.specs.declared.class_file.Handler.{Handler}
use Rattle.class_form.specs.Opcodes.{IsLoad, IsStore, IsReferenceLoad, IsReferenceStore, IsValueReturn, IsGetStatic, IsPutStatic, IsGetField, IsPutField, IsCall, IsInstanceCall, IsVirtualCall, IsSpecialCall, IsStaticCall, IsCheckCast}
use Rattle.dep_form.specs.declared.rules.Var.{Var}
use Rattle.dep_form.specs.declared.rules.Rule.TheVariants.{Enter, Alloc, Hold, Copy, Load, Store, Direct, Virtual, OutsideDirect}
use Rattle.dep_form.specs.declared.call_site.CallSite.{CallSite}
use Rattle.dep_form.specs.declared.system.System.{System}
use Rattle.dep_form.specs.PointsTo.{Reached, Has, Cell, OutsideAt}
use Rattle.dep_form.specs.Constraints.{SystemFact, SystemFollows, SystemHolds, IsRoot, Passes, ReceiverHas, SelectsMethod, IsCallSite, elements_field}
use Rattle.dep_form.specs.Constraints as system
use Rattle.dep_form.proofs.Closed.{all_in}
use Rattle.program_form.specs.Programs.{Program}
use Rattle.program_form.specs.Statements.{HasOpcode, NamesMember, IsInstance}
use Rattle.program_form.specs.Sites.{Site, Made, OfRoot}
use Rattle.program_form.specs.Facts.{Variable, ValueOf, ArgumentOf, ResultOf, ThrownBy, CaughtAt, ExceptionOf, Elements, field_name, IsAllocation, OperandHas, IsStaticVariable, Takes, GoesTo, IsNotFound, enters, given, given_elements, entry_initializes, initializes, allocates, nests, reads_fresh, copies, casts, answers, reads_field, reads_element, reads_static, writes_field, writes_element, writes_static, calls, calls_enter, calls_receive, goes_outside, goes_outside_at, selects, selects_enter, selects_receive, selects_outside, passes, receives, throws, catches, leaves, answers_fresh, outside_gives, outside_writes}
use Rattle.program_form.specs.Systems.{SiteNumber, CallNumber, VariableNumber, of_argument, of_result, of_thrown, of_exception}
use Rattle.constraint_form.specs.Asked.{IsReadProgram}
use Rattle.constraint_form.specs.Variables.{Meaning, Operand, StandsFor}
use Rattle.constraint_form.specs.Signatures.{SignatureNumber}
use Rattle.constraint_form.specs.Rules.{IsConstraint, IsHandlerFilter}
use Rattle.constraint_form.specs.Rules as rule
use Rattle.constraint_form.specs.ConstraintSystems.{AreTables}
use Rattle.constraint_form.proofs.Instructions.{both, kind, apart}
use Rattle.constraint_form.proofs.SiteNumbers.{site_type}
use Rattle.constraint_form.proofs.Numbers.{is_variable, no_operand, one_operand, is_call, placed}
use Rattle.constraint_form.proofs.SitePassing.{from_passes, from_selects, from_outside}
use Rattle.constraint_form.proofs.ProgramAdds.{Known, known}
use Rattle.constraint_form.proofs.Downwards.{IsRun, Down, has_at, operand_down, defined_down, constraint_of, running, call_of, argument_down, instance_of, raised_down, cell_down, gives_down, writes_down, rule_down}

module _ (p : Program) (s : System) (names : List Meaning) (asked : IsReadProgram p) (tables : AreTables p s names) where
  abbrev DownTo : SystemFact → Type 0
  DownTo = Down p s names asked tables

  abbrev Runs : MethodId → Type 0
  Runs m = IsRoot s m ⊎ Known p (Reached m)

  run : (t : Statement) (K : ℕ → Type 0) → HasOpcode p t K → Runs t.method → Known p (Reached t.method)
  run t K o r = running p s names asked tables t K o r

  -- a variable of the program may be the site
  may : (v : Variable) (x : Var) (n : SiteId) (h : Site) → VariableNumber p s v x → IsRun p s names asked tables v → SiteNumber p n h → Known p (Has v h) → DownTo (Has x n)
  may v x n h vn r sn k = has_at p s names asked tables v x n h vn r sn k

  entered : (m t : MethodId) → IsConstraint p s names m (Enter t) → Runs m → Known p (Reached t)
  entered m t (rule.enters root c) r = known p (enters c)
  entered m t (rule.entry_initializes root c k i) r = known p (entry_initializes c k i)
  entered m t (rule.initializes {t = u} o n i) r = known p (initializes (run u (λ op. Unit {0}) o r, o) n i)

  allocated : (m : MethodId) (x : Var) (n : SiteId) → IsConstraint p s names m (Alloc x n) → Runs m → DownTo (Has x n)
  allocated m x n (rule.given {e} root c a vn sn) r = may (ArgumentOf e.method 0) x n (OfRoot 0) vn (known p (enters c)) sn (known p (given c a))
  allocated m x n (rule.allocates {t = u} o vn sn) r =
      let k = run u IsAllocation o r in
      may (ValueOf u) x n (Made u 0) vn k sn (known p (allocates (k, o) (site_type p n (Made u 0) sn).1))
  allocated m x n (rule.reads_fresh {t = u} o none vn sn) r =
      let k = run u (λ op. IsGetStatic op ⊎ IsGetField op) o r in
      may (ValueOf u) x n (Made u 0) vn k sn (known p (reads_fresh (k, o) none (site_type p n (Made u 0) sn).1))

  held : (m : MethodId) (a b : SiteId) → IsConstraint p s names m (Hold a b) → Runs m → DownTo (Cell a (elements_field s) b)
  held m a b (rule.given_elements root sa sb) r = (OfRoot 0, Elements, OfRoot 1, sa, refl, sb, known p given_elements)
  held m a b (rule.nests {t = u} {k = j} o sa sb) r =
      let k = run u (λ op. Unit {0}) o r in
      (Made u j, Elements, Made u (suc j), sa, refl, sb, known p (nests (k, o) (site_type p a (Made u j) sa).1 (site_type p b (Made u (suc j)) sb).1))

  -- what a handler's filter passes the handler takes
  taken : (t : Statement) (handler : Handler) (keep : Option ClassId) (n : SiteId) (h : Site) → SiteNumber p n h → IsHandlerFilter p t handler keep → Passes s keep n → Takes p t handler h
  taken t handler keep n h sn (inl (e, none)) pass = inl e
  taken t handler keep n h sn (inr (text, is, filter)) pass = inr (text, is, from_passes p s names asked tables n h sn text keep filter pass)

  -- the variable of an operand may be the site
  joined : (t : Statement) (i : ℕ) (y : Var) (n : SiteId) (h : Site) → StandsFor names y (Operand t i) → SiteNumber p n h → OperandHas p (Known p) t i h → DownTo (Has y n)
  joined t i y n h stands sn o = (
    h,
    sn,
    λ v vn. absurd (no_operand p s names tables.variables v y t i vn stands),
    λ u j there.
        let (e, f) = one_operand p s names tables.variables y t u i j stands there in
        subst (λ z. OperandHas p (Known p) u z h) f (subst (λ z. OperandHas p (Known p) z i h) e o),
  )

  copied : (m : MethodId) (x y : Var) (keep : Option ClassId) (n : SiteId) → IsConstraint p s names m (Copy x y keep) → Runs m → DownTo (Has x n) → Passes s keep n → DownTo (Has y n)
  copied m x y keep n (rule.copies {t} o is vn) r d pass =
      let k = run t (λ op. IsLoad op ⊎ IsStore op) o r in
      let (h, sn, operand) = defined_down p s names asked tables t 0 x n is d in
      may (ValueOf t) y n h vn k sn (known p (copies (k, o) operand))
  copied m x y keep n (rule.casts {t} {text} o named filter is vn) r d pass =
      let k = run t IsCheckCast o r in
      let (h, sn, operand) = defined_down p s names asked tables t 0 x n is d in
      may (ValueOf t) y n h vn k sn (known p (casts (k, o) operand named (from_passes p s names asked tables n h sn text keep filter pass)))
  copied m x y keep n (rule.answers {t} o is vn) r d pass =
      let k = run t IsValueReturn o r in
      let (h, sn, operand) = defined_down p s names asked tables t 0 x n is d in
      may (ResultOf t.method) y n h vn tt sn (known p (answers (k, o) operand))
  copied m x y keep n (rule.writes_static {t} {v} o var is vn) r d pass =
      let k = run t IsPutStatic o r in
      let (h, sn, operand) = defined_down p s names asked tables t 0 x n is d in
      may v y n h vn (static_run t v var) sn (known p (writes_static (k, o) var operand))
    where
      static_run : (t : Statement) (v : Variable) → IsStaticVariable p t v → IsRun p s names asked tables v
      static_run t v (inl (f, named, e)) = subst (IsRun p s names asked tables) (sym e) tt
      static_run t v (inr (key, none, named, e)) = subst (IsRun p s names asked tables) (sym e) tt
  copied m x y keep n (rule.joins {t} {i} is stands) r d pass =
      let (h, sn, operand) = defined_down p s names asked tables t i x n is d in
      joined t i y n h stands sn operand
  copied m x y keep n (rule.reads_static {t} {v} o var vn wn) r (h, sn, named, operands) pass =
      let k = run t IsGetStatic o r in
      may (ValueOf t) y n h wn k sn (known p (reads_static (k, o) var (named v vn).0))
  copied m x y keep n (rule.catches {t} {handler} by covered filter vn) r d pass =
      let (h, sn, k, raised) = raised_down p s names asked tables t x n by r d in
      may (CaughtAt t.method handler.handler) y n h vn k sn (known p (catches raised covered (taken t handler keep n h sn filter pass)))
  copied m x y keep n (rule.leaves {t} by leave vn) r d pass =
      let (h, sn, k, raised) = raised_down p s names asked tables t x n by r d in
      may (ThrownBy t.method) y n h vn tt sn (known p (leaves raised leave))

  loaded : (m : MethodId) (x y : Var) (g : FieldId) (a n : SiteId) → IsConstraint p s names m (Load x g y) → Runs m → DownTo (Has x a) → DownTo (Cell a g n) → DownTo (Has y n)
  loaded m x y g a n (rule.reads_field {t} f o named of fg vn) r d cell =
      let k = run t IsGetField o r in
      let (b, sa, operand) = operand_down p s names asked tables t 0 x a of d in
      let (h, sn, holds) = cell_down p s names asked tables a g n b (field_name f) sa fg cell in
      may (ValueOf t) y n h vn k sn (known p (reads_field f (k, o) named operand holds))
  loaded m x y g a n (rule.reads_element {t} o of vn) r d cell =
      let k = run t IsReferenceLoad o r in
      let (b, sa, operand) = operand_down p s names asked tables t 0 x a of d in
      let (h, sn, holds) = cell_down p s names asked tables a g n b Elements sa refl cell in
      may (ValueOf t) y n h vn k sn (known p (reads_element (k, o) operand holds))

  stored : (m : MethodId) (x y : Var) (g : FieldId) (a n : SiteId) → IsConstraint p s names m (Store x g y) → Runs m → DownTo (Has x a) → DownTo (Has y n) → DownTo (Cell a g n)
  stored m x y g a n (rule.writes_field {t} f o named of to fg) r d e =
      let k = run t IsPutField o r in
      let (b, sa, base) = operand_down p s names asked tables t 0 x a of d in
      let (h, sn, value) = operand_down p s names asked tables t 1 y n to e in
      (b, field_name f, h, sa, fg, sn, known p (writes_field f (k, o) named base value))
  stored m x y g a n (rule.writes_element {t} o of to) r d e =
      let k = run t IsReferenceStore o r in
      let (b, sa, base) = operand_down p s names asked tables t 0 x a of d in
      let (h, sn, value) = operand_down p s names asked tables t 2 y n to e in
      (b, Elements, h, sa, refl, sn, known p (writes_element (k, o) base value))

  -- a call that names its target
  abbrev CallsBy : CallId → MethodId → Statement → Type 0
  CallsBy c t u = HasOpcode p u IsCall × GoesTo p u t × CallNumber s u c × Known p (Reached u.method)

  direct : (m : MethodId) (c : CallId) (t : MethodId) → IsConstraint p s names m (Direct c t) → Runs m → (u : Statement) × CallsBy c t u
  direct m c t (rule.calls {t = u} o goes number) r = (u, (o, goes, number, run u IsCall o r))

  -- .. of a receiver
  special : (u : Statement) (t : MethodId) → GoesTo p u t → IsInstance p u true → HasOpcode p u IsSpecialCall
  special u t (key, d, named, target, inl (o, found)) i = absurd (apart p asked u IsStaticCall IsInstanceCall no_static o i)
    where
      no_static : (op : ℕ) → IsStaticCall op → IsInstanceCall op → ⊥
      no_static op h (inl (inl e)) = omega (arith, h, e)
      no_static op h (inl (inr e)) = omega (arith, h, e)
      no_static op h (inr e) = omega (arith, h, e)
  special u t (key, d, named, target, inr rest) i = rest.0

  received : (u : Statement) (c : CallId) (k : CallSite) (n : SiteId) → CallNumber s u c → IsCallSite s c k → ReceiverHas s DownTo k n →
      (h : Site) × SiteNumber p n h × OperandHas p (Known p) u 0 h × IsInstance p u true
  received u c k n number at (i, a) =
      let of = call_of p s names asked tables u c k number at in
      let (h, sn, operand) = argument_down p s names asked tables u c k 0 n of a in
      (h, sn, operand, instance_of p s names asked tables u c k true of i)

  -- a virtual call
  abbrev SelectsBy : CallId → ℕ → Statement → Type 0
  SelectsBy c g u = HasOpcode p u IsVirtualCall × ((key : MemberKey) × NamesMember p u key × SignatureNumber p key g) × CallNumber s u c × Known p (Reached u.method)

  virtual : (m : MethodId) (c : CallId) (g : ℕ) → IsConstraint p s names m (Virtual c g) → Runs m → (u : Statement) × SelectsBy c g u
  virtual m c g (rule.selects {t = u} {key} o named sig number) r = (u, (o, (key, named, sig), number, run u IsVirtualCall o r))

  -- a call of what isn't found
  abbrev LeavesBy : CallId → Statement → Type 0
  LeavesBy c u = HasOpcode p u (λ op. IsStaticCall op ⊎ IsSpecialCall op) × IsNotFound p u × CallNumber s u c × Known p (Reached u.method)

  not_found : (m : MethodId) (c : CallId) → IsConstraint p s names m (OutsideDirect c) → Runs m → (u : Statement) × LeavesBy c u
  not_found m c (rule.goes_outside {t = u} o none number) r = (u, (o, none, number, run u (λ op. IsStaticCall op ⊎ IsSpecialCall op) o r))

  only_static : (u : Statement) → HasOpcode p u (λ op. IsStaticCall op ⊎ IsSpecialCall op) → IsInstance p u false → HasOpcode p u IsStaticCall
  only_static u o i =
      let both_kinds = both p asked u (λ op. IsStaticCall op ⊎ IsSpecialCall op) (λ op. IsCall op × (IsInstanceCall op → ⊥)) o i in
      kind p asked u (λ op. (IsStaticCall op ⊎ IsSpecialCall op) × (IsCall op × (IsInstanceCall op → ⊥))) IsStaticCall (λ op h. elim h.0 [ inl e ↦ e | inr e ↦ absurd (h.1.1 (inr e)) ]) both_kinds

  only_special : (u : Statement) → HasOpcode p u (λ op. IsStaticCall op ⊎ IsSpecialCall op) → IsInstance p u true → HasOpcode p u IsSpecialCall
  only_special u o i =
      let both_kinds = both p asked u (λ op. IsStaticCall op ⊎ IsSpecialCall op) IsInstanceCall o i in
      kind p asked u (λ op. (IsStaticCall op ⊎ IsSpecialCall op) × IsInstanceCall op) IsSpecialCall is_special both_kinds
    where
      is_special : (op : ℕ) → (IsStaticCall op ⊎ IsSpecialCall op) × IsInstanceCall op → IsSpecialCall op
      is_special op (inr e, i) = e
      is_special op (inl e, inr f) = absurd (omega (arith, e, f))
      is_special op (inl e, inl (inl f)) = absurd (omega (arith, e, f))
      is_special op (inl e, inl (inr f)) = absurd (omega (arith, e, f))

  down : {f : SystemFact} → SystemFollows s DownTo f → DownTo f
  down (system.enter {t} f) = let (m, c, r) = constraint_of p s names asked tables f in entered m t c r
  down (system.alloc {v} {h} f) = let (m, c, r) = constraint_of p s names asked tables f in allocated m v h c r
  down (system.hold {a} {b} f) = let (m, c, r) = constraint_of p s names asked tables f in held m a b c r
  down (system.copy {v} {w} {keep} {h} f d pass) = let (m, c, r) = constraint_of p s names asked tables f in copied m v w keep h c r d pass
  down (system.load {v} {w} {f = g} {b} {h} f d cell) = let (m, c, r) = constraint_of p s names asked tables f in loaded m v w g b h c r d cell
  down (system.store {v} {w} {f = g} {b} {h} f d e) = let (m, c, r) = constraint_of p s names asked tables f in stored m v w g b h c r d e
  down (system.direct_calls {c} {t} f) =
      let (m, is, r) = constraint_of p s names asked tables f in
      let (u, (o, goes, number, k)) = direct m c t is r in
      (u, number, k, known p (calls_enter (k, o) goes), known p (calls (k, o) goes))
  down (system.direct_enters {c} {t} f) =
      let (m, is, r) = constraint_of p s names asked tables f in
      let (u, (o, goes, number, k)) = direct m c t is r in
      known p (calls_enter (k, o) goes)
  down (system.direct_receives {c} {t} {k = call} {m = v} {v = x} {h = n} f at vars formal receiver) =
      let (m, is, r) = constraint_of p s names asked tables f in
      let (u, (o, goes, number, k)) = direct m c t is r in
      let (h, sn, operand, i) = received u c call n number at receiver in
      let vn : VariableNumber p s (ArgumentOf t 0) x = of_argument vars formal in
      may (ArgumentOf t 0) x n h vn (known p (calls_enter (k, o) goes)) sn
      (known p (calls_receive (k, special u t goes i) goes (is_variable p s names tables.variables (ArgumentOf t 0) x vn) operand))
  down (system.virtual_calls {c} {g} {t} {k = call} {h = n} f at receiver selected) =
      let (m, is, r) = constraint_of p s names asked tables f in
      let (u, (o, (key, named, sig), number, k)) = virtual m c g is r in
      let (h, sn, operand, i) = received u c call n number at receiver in
      let target = from_selects p s names asked tables n h sn u t key g named sig selected in
      (u, number, k, known p (selects_enter (k, o) operand target), known p (selects (k, o) operand target))
  down (system.virtual_enters {c} {g} {t} {k = call} {h = n} f at receiver selected) =
      let (m, is, r) = constraint_of p s names asked tables f in
      let (u, (o, (key, named, sig), number, k)) = virtual m c g is r in
      let (h, sn, operand, i) = received u c call n number at receiver in
      known p (selects_enter (k, o) operand (from_selects p s names asked tables n h sn u t key g named sig selected))
  down (system.virtual_receives {c} {g} {t} {k = call} {m = v} {v = x} {h = n} f at receiver selected vars formal) =
      let (m, is, r) = constraint_of p s names asked tables f in
      let (u, (o, (key, named, sig), number, k)) = virtual m c g is r in
      let (h, sn, operand, i) = received u c call n number at receiver in
      let target = from_selects p s names asked tables n h sn u t key g named sig selected in
      may (ArgumentOf t 0) x n h (of_argument vars formal) (known p (selects_enter (k, o) operand target)) sn (known p (selects_receive (k, o) operand target))
  down (system.virtual_outside {c} {g} {k = call} {h = n} f at receiver out) =
      let (m, is, r) = constraint_of p s names asked tables f in
      let (u, (o, (key, named, sig), number, k)) = virtual m c g is r in
      let (h, sn, operand, i) = received u c call n number at receiver in
      (u, h, number, sn, k, known p (selects_outside (k, o) operand (from_outside p s names asked tables n h sn u key g named sig out)))
  down (system.outside_static {c} {k = call} f at e) =
      let (m, is, r) = constraint_of p s names asked tables f in
      let (u, (o, none, number, k)) = not_found m c is r in
      let i = instance_of p s names asked tables u c call false (call_of p s names asked tables u c call number at) e in
      (u, number, k, known p (goes_outside (k, only_static u o i) none))
  down (system.outside_special {c} {k = call} {h = n} f at receiver) =
      let (m, is, r) = constraint_of p s names asked tables f in
      let (u, (o, none, number, k)) = not_found m c is r in
      let (h, sn, operand, i) = received u c call n number at receiver in
      (u, h, number, sn, k, known p (goes_outside_at (k, only_special u o i) none operand))
  down (system.passes {c} {t} {k = call} {m = v} {i} {v = x} {h = n} (u, number, k, enters_t, goes) at vars not_receiver argument formal) =
      let of = call_of p s names asked tables u c call number at in
      let (h, sn, operand) = argument_down p s names asked tables u c call i n of argument in
      let vn : VariableNumber p s (ArgumentOf t i) x = of_argument vars formal in
      may (ArgumentOf t i) x n h vn enters_t sn
      (known p (passes (k, is_call p s names tables.calls u c number) goes (tables.calls.types u c call of).2 not_receiver (is_variable p s names tables.variables (ArgumentOf t i) x vn) operand))
  down (system.answers {c} {t} {k = call} {m = v} {v = x} {w = y} {h = n} (u, number, k, enters_t, goes) at vars result value (h, sn, named, operands)) =
      let of = call_of p s names asked tables u c call number at in
      let (z, there, wn) = tables.calls.results u c call of in
      let vn : VariableNumber p s (ResultOf t) x = of_result vars result in
      may (ValueOf u) y n h (subst (λ w. VariableNumber p s (ValueOf u) w) (same_Some z y (sym there ∙ value)) wn) k sn
      (known p (receives (k, is_call p s names tables.calls u c number) goes (named (ResultOf t) vn).0))
  down (system.throws {c} {t} {k = call} {m = v} {h = n} (u, number, k, enters_t, goes) at vars (h, sn, named, operands)) =
      let of = call_of p s names asked tables u c call number at in
      let vn : VariableNumber p s (ThrownBy t) v.thrown = of_thrown vars refl in
      may (ExceptionOf u) call.exception n h (of_exception c of.0 of.1 refl) tt sn (known p (throws (k, is_call p s names tables.calls u c number) goes (named (ThrownBy t) vn).0))
  down (system.fresh {c} {k = call} {o} {v = x} {h = n} out at value fresh) = fresh_down c call o x n out at value fresh
    where
      fresh_at : (u : Statement) (c : CallId) (call : CallSite) (x : Var) (n : SiteId) → CallNumber s u c → Known p (Reached u.method) → (q : Option Site) → Known p (OutsideAt u q) →
          IsCallSite s c call → call.result ≡ Some x → call.fresh ≡ Some n → DownTo (Has x n)
      fresh_at u c call x n number k q goes at value fresh =
          let of = call_of p s names asked tables u c call number at in
          let (z, there, wn) = tables.calls.results u c call of in
          let sn = (tables.calls.fresh u c call n of).0 fresh in
          may (ValueOf u) x n (Made u 0) (subst (λ w. VariableNumber p s (ValueOf u) w) (same_Some z x (sym there ∙ value)) wn) k sn
          (known p (answers_fresh (k, is_call p s names tables.calls u c number) goes (site_type p n (Made u 0) sn).1))

      fresh_down : (c : CallId) (call : CallSite) (o : Option SiteId) (x : Var) (n : SiteId) → DownTo (OutsideAt c o) → IsCallSite s c call → call.result ≡ Some x → call.fresh ≡ Some n → DownTo (Has x n)
      fresh_down c call None x n (u, number, k, goes) at value fresh = fresh_at u c call x n number k None goes at value fresh
      fresh_down c call (Some m) x n (u, g, number, sm, k, goes) at value fresh = fresh_at u c call x n number k (Some g) goes at value fresh
  down (system.gives {c} {k = call} {r} {v = x} {b} {h = n} at rule_at value fresh given_by) =
      let (u, place) = placed p s names tables.calls c call at in
      let (h, sn, k, gives) = gives_down p s names asked tables u c call (at, place) r r.reads n given_by in
      let (z, there, wn) = tables.calls.results u c call (at, place) in
      let sb = (tables.calls.fresh u c call b (at, place)).0 fresh in
      may (ValueOf u) x n h (subst (λ w. VariableNumber p s (ValueOf u) w) (same_Some z x (sym there ∙ value)) wn) k sn
      (known p (outside_gives (k, is_call p s names tables.calls u c (call, at, place)) (rule_down p s names asked tables u c call (at, place) r rule_at) (site_type p b (Made u 0) sb).1 gives))
  down (system.writes {c} {k = call} {r} {b = a} {h = n} {f = g} at rule_at written given_by) =
      let (u, place) = placed p s names tables.calls c call at in
      let (h, sn, k, gives) = gives_down p s names asked tables u c call (at, place) r r.written n given_by in
      let (b, f, sa, fg, run_too, writes) = writes_down p s names asked tables u c call (at, place) r a g written in
      (b, f, h, sa, fg, sn, known p (outside_writes (k, is_call p s names tables.calls u c (call, at, place)) (rule_down p s names asked tables u c call (at, place) r rule_at) writes gives))

  -- what each fact that holds means of the program is known
  pub all_down : (f : SystemFact) → SystemHolds s f → DownTo f
  all_down f h = all_in s DownTo (λ g x. down x) h.0 h.1 f h.2

-- What follows over a program follows over its constraints, by numbers: one lemma for each rule.
use Rattle.std.proofs.Common.{◌⊎◌, ◌<◌, ℕ, suc, true, false, List, length, Some, None, refl, sym, subst, ◌∙◌, inl, inr, arith}
use Rattle.slicer_ids.specs.declared.ids.MethodId.{MethodId}
use Rattle.slicer_ids.specs.declared.ids.SiteId.{SiteId}
use Rattle.slicer_ids.specs.declared.ids.CallId.{CallId}
use Rattle.slicer_ids.specs.declared.ids.Statement.{Statement}
use Rattle.class_form.specs.Opcodes.{IsLoad, IsStore, IsReferenceLoad, IsReferenceStore, IsValueReturn, IsGetStatic, IsPutStatic, IsGetField, IsPutField, IsCall, IsInstanceCall, IsVirtualCall, IsSpecialCall, IsStaticCall, IsThrow, IsCheckCast}
use Rattle.dep_form.specs.declared.rules.Rule.{Rule}
use Rattle.dep_form.specs.declared.rules.Var.{Var}
use Rattle.dep_form.specs.declared.call_site.CallSite.{CallSite}
use Rattle.dep_form.specs.declared.system.System.{System}
use Rattle.dep_form.specs.PointsTo.{Reached, Has, Cell, Calls, OutsideAt}
use Rattle.dep_form.specs.Constraints.{InForce, ReceiverHas, elements_field}
use Rattle.dep_form.specs.Constraints as system
use Rattle.program_form.specs.Programs.{Program}
use Rattle.program_form.specs.Statements.{HasOpcode, IsInstance}
use Rattle.program_form.specs.Sites.{Site, Made, OfRoot, of_arguments, of_argument}
use Rattle.program_form.specs.Facts.{ProgramFact, Follows, Holds, OperandHas, IsRaised, IsAllocation, ArgumentOf, ResultOf, ThrownBy, CaughtAt, enters, given, given_elements, entry_initializes, initializes, allocates, nests, reads_fresh, copies, casts, answers, reads_field, reads_element, reads_static, writes_field, writes_element, writes_static, calls, calls_enter, calls_receive, goes_outside, goes_outside_at, selects, selects_enter, selects_receive, selects_outside, passes, receives, throws, catches, leaves, answers_fresh, outside_gives, outside_writes}
use Rattle.program_form.specs.Systems.{SiteNumber, IsCallOf, of_exception}
use Rattle.program_form.specs.Systems as tied
use Rattle.program_form.proofs.Closed.{all_in}
use Rattle.constraint_form.specs.Asked.{IsReadProgram}
use Rattle.constraint_form.specs.Variables.{Meaning, OperandNumber, MakesObject, ReadsFirst}
use Rattle.constraint_form.specs.Rules.{IsConstraint}
use Rattle.constraint_form.specs.Rules as rule
use Rattle.constraint_form.specs.ConstraintSystems.{AreTables}
use Rattle.constraint_form.proofs.Instructions.{kind, in_range}
use Rattle.constraint_form.proofs.SiteNumbers.{number_of_site}
use Rattle.constraint_form.proofs.Numbers.{number_of_field, number_of_call}
use Rattle.constraint_form.proofs.SitePassing.{to_passes, to_selects, to_outside}
use Rattle.constraint_form.proofs.SystemAdds.{Known, known}
use Rattle.constraint_form.proofs.Upwards.{Up, at, up_has, up_cell, up_calls, up_outside, force, value, operand_site, up_operand, up_argument, has_receiver, formal_of, result_of, thrown_of, static_number, filter_of, up_takes, up_raised, signature, target_formal}
use Rattle.constraint_form.proofs.OutsideUpwards.{rule_of, rules_agree, gives_up, writes_up}

-- kinds of instructions that make objects
of_allocation : (op : ℕ) → IsAllocation op → MakesObject op
of_allocation op h = inl h

of_move : (op : ℕ) → IsLoad op ⊎ IsStore op → MakesObject op
of_move op (inl h) = inr (inl h)
of_move op (inr h) = inr (inr (inl h))

of_cast : (op : ℕ) → IsCheckCast op → MakesObject op
of_cast op h = inr (inr (inr (inl h)))

of_get : (op : ℕ) → IsGetField op → MakesObject op
of_get op h = inr (inr (inr (inr (inl h))))

of_element : (op : ℕ) → IsReferenceLoad op → MakesObject op
of_element op h = inr (inr (inr (inr (inr (inl h)))))

of_static : (op : ℕ) → IsGetStatic op → MakesObject op
of_static op h = inr (inr (inr (inr (inr (inr (inl h))))))

of_read : (op : ℕ) → IsGetStatic op ⊎ IsGetField op → MakesObject op
of_read op (inl h) = of_static op h
of_read op (inr h) = of_get op h

-- kinds of calls
of_virtual : (op : ℕ) → IsVirtualCall op → IsCall op
of_virtual op (inl h) = (omega (arith, h), omega (arith, h))
of_virtual op (inr h) = (omega (arith, h), omega (arith, h))

of_special : (op : ℕ) → IsSpecialCall op → IsCall op
of_special op h = (omega (arith, h), omega (arith, h))

of_static_call : (op : ℕ) → IsStaticCall op → IsCall op
of_static_call op h = (omega (arith, h), omega (arith, h))

static_has_none : (op : ℕ) → IsStaticCall op → IsCall op × (IsInstanceCall op → ⊥)
static_has_none op h = (of_static_call op h, λ i. elim i [ inl v ↦ elim v [ inl e ↦ omega (arith, h, e) | inr e ↦ omega (arith, h, e) ] | inr e ↦ omega (arith, h, e) ])

module _ (p : Program) (s : System) (names : List Meaning) (asked : IsReadProgram p) (tables : AreTables p s names) where
  abbrev UpTo : ProgramFact → Type 0
  UpTo = Up p s names asked tables

  root : MethodId
  root = record { 0 = length p.methods }

  root_force : {r : Rule} → IsConstraint p s names (record { 0 = length p.methods }) r → InForce s (Known s) r
  root_force {r} c = (record { 0 = length p.methods }, (tables.constraints (record { 0 = length p.methods }) r).1 c, inl (sym tables.methods))

  forced : (t : Statement) {r : Rule} → UpTo (Reached t.method) → IsConstraint p s names t.method r → InForce s (Known s) r
  forced t u c = force p s names asked tables t u c

  in_methods : (t : Statement) (K : ℕ → Type 0) → HasOpcode p t K → t.method.0 < length p.methods
  in_methods t K o = in_range p asked t K o

  -- the call at a statement
  call_at : (t : Statement) (K : ℕ → Type 0) → ((op : ℕ) → K op → IsCall op) → HasOpcode p t K → (c : CallId) × (k : CallSite) × IsCallOf s t c k
  call_at t K f o = let (c, (k, is, place)) = number_of_call p s names tables.calls t (kind p asked t K IsCall f o) in (c, k, (is, place))

  -- its receiver
  received : (t : Statement) (c : CallId) (k : CallSite) → IsCallOf s t c k → UpTo (Reached t.method) → IsInstance p t true → (h : Site) (n : SiteId) → SiteNumber p n h →
      OperandHas p UpTo t 0 h → ReceiverHas s (Known s) k n
  received t c k of r instance h n sn o = (has_receiver p s names asked tables t c k true of instance, up_argument p s names asked tables t c k 0 of r h n sn o)

  virtual_instance : (t : Statement) → HasOpcode p t IsVirtualCall → IsInstance p t true
  virtual_instance t o = kind p asked t IsVirtualCall IsInstanceCall (λ op h. inl h) o

  special_instance : (t : Statement) → HasOpcode p t IsSpecialCall → IsInstance p t true
  special_instance t o = kind p asked t IsSpecialCall IsInstanceCall (λ op h. inr h) o

  -- the variable of an operand that is reached through, or is stored
  read_number : (t : Statement) (K : ℕ → Type 0) → ((op : ℕ) → K op → ReadsFirst op) → HasOpcode p t K → (x : Var) × OperandNumber p s names t 0 x
  read_number t K f o = tables.variables.operands t 0 (inl (refl, kind p asked t K ReadsFirst f o))

  raised_in : (t : Statement) (h : Site) → IsRaised p UpTo t h → t.method.0 < length p.methods
  raised_in t h (inl ((r, o), operand)) = in_methods t IsThrow o
  raised_in t h (inr ((r, o), u)) = in_methods t IsCall o

  up : {f : ProgramFact} → Follows p UpTo f → UpTo f
  up (enters {e} c) = (Reached e.method, tied.reached, known s (system.enter (root_force (rule.enters refl c))))
  up (given {e} c a) =
      let (x, vn) = tables.variables.whole (ArgumentOf e.method 0) (asked.entries e c a) in
      let (n, sn) = number_of_site p s tables.sites (OfRoot 0) _ (of_arguments refl) in
      (Has x n, tied.has vn sn, known s (system.alloc (root_force (rule.given refl c a vn sn))))
  up given_elements =
      let (a, sa) = number_of_site p s tables.sites (OfRoot 0) _ (of_arguments refl) in
      let (b, sb) = number_of_site p s tables.sites (OfRoot 1) _ (of_argument refl) in
      (Cell a (elements_field s) b, tied.cell sa refl sb, known s (system.hold (root_force (rule.given_elements refl sa sb))))
  up (entry_initializes {m} c k i) = (Reached m, tied.reached, known s (system.enter (root_force (rule.entry_initializes refl c k i))))
  up (initializes {s = t} {m} (k, o) n i) = (Reached m, tied.reached, known s (system.enter (forced t k (rule.initializes o n i))))
  up (allocates {s = t} (k, o) typed) =
      let (x, vn) = value p s names asked tables t IsAllocation of_allocation o in
      let (n, sn) = number_of_site p s tables.sites (Made t 0) _ typed in
      (Has x n, tied.has vn sn, known s (system.alloc (forced t k (rule.allocates o vn sn))))
  up (nests {s = t} {k = j} (k, o) outer inner) =
      let (a, sa) = number_of_site p s tables.sites (Made t j) _ outer in
      let (b, sb) = number_of_site p s tables.sites (Made t (suc j)) _ inner in
      (Cell a (elements_field s) b, tied.cell sa refl sb, known s (system.hold (forced t k (rule.nests o sa sb))))
  up (reads_fresh {s = t} (k, o) none typed) =
      let (x, vn) = value p s names asked tables t (λ op. IsGetStatic op ⊎ IsGetField op) of_read o in
      let (n, sn) = number_of_site p s tables.sites (Made t 0) _ typed in
      (Has x n, tied.has vn sn, known s (system.alloc (forced t k (rule.reads_fresh o none vn sn))))
  up (copies {s = t} (k, o) (d, is, u)) =
      let (x, n, vn, sn, h) = up_has p s names asked tables u in
      let (y, wn) = value p s names asked tables t (λ op. IsLoad op ⊎ IsStore op) of_move o in
      (Has y n, tied.has wn sn, known s (system.copy (forced t k (rule.copies o (d, is, vn) wn)) h tt))
  up (casts {s = t} {text} {h = site} (k, o) (d, is, u) named pass) =
      let (x, n, vn, sn, h) = up_has p s names asked tables u in
      let (y, wn) = value p s names asked tables t IsCheckCast of_cast o in
      let (keep, filter) = filter_of p s names asked tables text in
      (Has y n, tied.has wn sn, known s (system.copy (forced t k (rule.casts o named filter (d, is, vn) wn)) h (to_passes p s names asked tables n site sn text keep filter pass)))
  up (answers {s = t} (k, o) (d, is, u)) =
      let (x, n, vn, sn, h) = up_has p s names asked tables u in
      let (y, wn) = tables.variables.whole (ResultOf t.method) (in_methods t IsValueReturn o) in
      (Has y n, tied.has wn sn, known s (system.copy (forced t k (rule.answers o (d, is, vn) wn)) h tt))
  up (reads_field {s = t} f {b} {h = site} (k, o) named operand u) =
      let (x, of) = read_number t IsGetField (λ op h. inl h) o in
      let (a, g, n, sa, fg, sn, holds) = up_cell p s names asked tables u in
      let (y, wn) = value p s names asked tables t IsGetField of_get o in
      (Has y n, tied.has wn sn, known s (system.load (forced t k (rule.reads_field f o named of fg wn)) (up_operand p s names asked tables t 0 x of k b a sa operand) holds))
  up (reads_element {s = t} {b} {h = site} (k, o) operand u) =
      let (x, of) = read_number t IsReferenceLoad (λ op h. inr (inr (inl (omega (arith, h), omega (arith, h))))) o in
      let (a, g, n, sa, fg, sn, holds) = up_cell p s names asked tables u in
      let (y, wn) = value p s names asked tables t IsReferenceLoad of_element o in
      let elements = at p s names asked tables u (tied.cell sa refl sn) in
      (Has y n, tied.has wn sn, known s (system.load (forced t k (rule.reads_element o of wn)) (up_operand p s names asked tables t 0 x of k b a sa operand) elements))
  up (reads_static {s = t} {v} (k, o) is u) =
      let (x, n, vn, sn, h) = up_has p s names asked tables u in
      let (y, wn) = value p s names asked tables t IsGetStatic of_static o in
      (Has y n, tied.has wn sn, known s (system.copy (forced t k (rule.reads_static o is vn wn)) h tt))
  up (writes_field {s = t} f {b} {h = site} (k, o) named base stored) =
      let (x, of) = read_number t IsPutField (λ op h. inr (inl h)) o in
      let (y, to) = tables.variables.operands t 1 (inr (inl (refl, o))) in
      let (a, sa) = operand_site p s names asked tables t 0 b base in
      let (n, sn) = operand_site p s names asked tables t 1 site stored in
      let (g, fg) = number_of_field s p tables.fields t f named in (
        Cell a g n,
        tied.cell sa fg sn,
        known s (system.store (forced t k (rule.writes_field f o named of to fg))
            (up_operand p s names asked tables t 0 x of k b a sa base) (up_operand p s names asked tables t 1 y to k site n sn stored)),
      )
  up (writes_element {s = t} {b} {h = site} (k, o) base stored) =
      let (x, of) = read_number t IsReferenceStore (λ op h. inr (inr (inr (inl (omega (arith, h), omega (arith, h)))))) o in
      let (y, to) = tables.variables.operands t 2 (inr (inr (inl (refl, o)))) in
      let (a, sa) = operand_site p s names asked tables t 0 b base in
      let (n, sn) = operand_site p s names asked tables t 2 site stored in (
        Cell a (elements_field s) n,
        tied.cell sa refl sn,
        known s (system.store (forced t k (rule.writes_element o of to))
            (up_operand p s names asked tables t 0 x of k b a sa base) (up_operand p s names asked tables t 2 y to k site n sn stored)),
      )
  up (writes_static {s = t} {v} (k, o) is (d, has, u)) =
      let (x, n, vn, sn, h) = up_has p s names asked tables u in
      let (y, wn) = static_number p s names asked tables t v (kind p asked t IsPutStatic (λ op. IsGetStatic op ⊎ IsPutStatic op) (λ op h. inr h) o) is in
      (Has y n, tied.has wn sn, known s (system.copy (forced t k (rule.writes_static o is (d, has, vn) wn)) h tt))
  up (calls {s = t} {t = m} (k, o) goes) =
      let (c, number) = number_of_call p s names tables.calls t o in
      (Calls c m, tied.calls number, known s (system.direct_calls (forced t k (rule.calls o goes number))))
  up (calls_enter {s = t} {t = m} (k, o) goes) =
      let (c, number) = number_of_call p s names tables.calls t o in
      (Reached m, tied.reached, known s (system.direct_enters (forced t k (rule.calls o goes number))))
  up (calls_receive {s = t} {t = m} {h = site} (k, o) goes formal operand) =
      let (c, call, of) = call_at t IsSpecialCall of_special o in
      let (x, vn) = tables.variables.whole (ArgumentOf m 0) formal in
      let (v, is, there) = formal_of p s names asked tables m 0 x vn in
      let (n, sn) = operand_site p s names asked tables t 0 site operand in (
        Has x n,
        tied.has vn sn,
        known s (system.direct_receives (forced t k (rule.calls (kind p asked t IsSpecialCall IsCall of_special o) goes (call, of.0, of.1)))
            of.0 is there (received t c call of k (special_instance t o) site n sn operand)),
      )
  up (goes_outside {s = t} (k, o) none) =
      let (c, call, of) = call_at t IsStaticCall of_static_call o in
      let static = kind p asked t IsStaticCall (λ op. IsCall op × (IsInstanceCall op → ⊥)) static_has_none o in (
        OutsideAt c None,
        tied.static_outside (call, of.0, of.1),
        known s (system.outside_static
            (forced t k (rule.goes_outside (kind p asked t IsStaticCall (λ op. IsStaticCall op ⊎ IsSpecialCall op) (λ op h. inl h) o) none (call, of.0, of.1))) of.0 (has_receiver p s names asked tables t c call false of static)),
      )
  up (goes_outside_at {s = t} {h = site} (k, o) none operand) =
      let (c, call, of) = call_at t IsSpecialCall of_special o in
      let (n, sn) = operand_site p s names asked tables t 0 site operand in (
        OutsideAt c (Some n),
        tied.outside (call, of.0, of.1) sn,
        known s (system.outside_special
            (forced t k (rule.goes_outside (kind p asked t IsSpecialCall (λ op. IsStaticCall op ⊎ IsSpecialCall op) (λ op h. inr h) o) none (call, of.0, of.1))) of.0
            (received t c call of k (special_instance t o) site n sn operand)),
      )
  up (selects {s = t} {h = site} {t = m} (k, o) operand target) =
      let (c, call, of) = call_at t IsVirtualCall of_virtual o in
      let (n, sn) = operand_site p s names asked tables t 0 site operand in
      let (key, named, selected) = to_selects p s names asked tables n site sn t m target in
      let (g, sig) = signature p s names asked tables t key o named in (
        Calls c m,
        tied.calls (call, of.0, of.1),
        known s (system.virtual_calls (forced t k (rule.selects o named sig (call, of.0, of.1))) of.0
            (received t c call of k (virtual_instance t o) site n sn operand) (selected g sig)),
      )
  up (selects_enter {s = t} {h = site} {t = m} (k, o) operand target) =
      let (c, call, of) = call_at t IsVirtualCall of_virtual o in
      let (n, sn) = operand_site p s names asked tables t 0 site operand in
      let (key, named, selected) = to_selects p s names asked tables n site sn t m target in
      let (g, sig) = signature p s names asked tables t key o named in (
        Reached m,
        tied.reached,
        known s (system.virtual_enters (forced t k (rule.selects o named sig (call, of.0, of.1))) of.0
            (received t c call of k (virtual_instance t o) site n sn operand) (selected g sig)),
      )
  up (selects_receive {s = t} {h = site} {t = m} (k, o) operand target) =
      let (c, call, of) = call_at t IsVirtualCall of_virtual o in
      let (n, sn) = operand_site p s names asked tables t 0 site operand in
      let (key, named, selected) = to_selects p s names asked tables n site sn t m target in
      let (g, sig) = signature p s names asked tables t key o named in
      let (x, vn) = tables.variables.whole (ArgumentOf m 0) (target_formal p asked t site m target) in
      let (v, is, there) = formal_of p s names asked tables m 0 x vn in (
        Has x n,
        tied.has vn sn,
        known s (system.virtual_receives (forced t k (rule.selects o named sig (call, of.0, of.1))) of.0
            (received t c call of k (virtual_instance t o) site n sn operand) (selected g sig) is there),
      )
  up (selects_outside {s = t} {h = site} (k, o) operand out) =
      let (c, call, of) = call_at t IsVirtualCall of_virtual o in
      let (n, sn) = operand_site p s names asked tables t 0 site operand in
      let (key, named) = asked.members t o in
      let (g, sig) = signature p s names asked tables t key o named in (
        OutsideAt c (Some n),
        tied.outside (call, of.0, of.1) sn,
        known s (system.virtual_outside (forced t k (rule.selects o named sig (call, of.0, of.1))) of.0
            (received t c call of k (virtual_instance t o) site n sn operand) (to_outside p s names asked tables n site sn t key g named sig out)),
      )
  up (passes {s = t} {t = m} {instance} {i} {h = site} (k, o) u has not_receiver formal operand) =
      let (c, (call, is_call, place), goes) = up_calls p s names asked tables u in
      let (x, vn) = tables.variables.whole (ArgumentOf m i) formal in
      let (v, is, there) = formal_of p s names asked tables m i x vn in
      let (n, sn) = operand_site p s names asked tables t i site operand in
      let same = has_receiver p s names asked tables t c call instance (is_call, place) has in
      (Has x n, tied.has vn sn, known s (system.passes goes is_call is (λ r. not_receiver (sym same ∙ r.0, r.1)) (up_argument p s names asked tables t c call i (is_call, place) k site n sn operand) there))
  up (receives {s = t} {t = m} (k, o) u w) =
      let (c, (call, is_call, place), goes) = up_calls p s names asked tables u in
      let (x, n, vn, sn, h) = up_has p s names asked tables w in
      let (v, is, there) = result_of p s names asked tables m x vn in
      let (y, result, wn) = tables.calls.results t c call (is_call, place) in
      (Has y n, tied.has wn sn, known s (system.answers goes is_call is there result h))
  up (throws {s = t} {t = m} (k, o) u w) =
      let (c, (call, is_call, place), goes) = up_calls p s names asked tables u in
      let (x, n, vn, sn, h) = up_has p s names asked tables w in
      let (v, is, there) = thrown_of p s names asked tables m x vn in
      (Has call.exception n, tied.has (of_exception c is_call place refl) sn, known s (system.throws goes is_call is (subst (λ z. Known s (Has z n)) (sym there) h)))
  up (catches {s = t} {handler} {h = site} raised covered takes) =
      let (x, n, by, sn, h, k) = up_raised p s names asked tables t site raised in
      let (y, wn) = tables.variables.whole (CaughtAt t.method handler.handler) (covered.0, handler, covered.1, covered.2, refl) in
      let (keep, filter, pass) = up_takes p s names asked tables t handler site n sn takes in
      (Has y n, tied.has wn sn, known s (system.copy (forced t k (rule.catches by covered filter wn)) h pass))
  up (leaves {s = t} {h = site} raised may) =
      let (x, n, by, sn, h, k) = up_raised p s names asked tables t site raised in
      let (y, wn) = tables.variables.whole (ThrownBy t.method) (raised_in t site raised) in
      (Has y n, tied.has wn sn, known s (system.copy (forced t k (rule.leaves by may wn)) h tt))
  up (answers_fresh {s = t} (k, o) u typed) =
      let (c, call, of) = call_at t IsCall (λ op h. h) o in
      let (n, sn) = number_of_site p s tables.sites (Made t 0) _ typed in
      let (r, goes) = up_outside p s names asked tables c (call, of.0, of.1) u in
      let (y, result, wn) = tables.calls.results t c call of in
      (Has y n, tied.has wn sn, known s (system.fresh goes of.0 result ((tables.calls.fresh t c call n of).1 sn)))
  up (outside_gives {s = t} {instance} {r} {h = site} (k, o) is typed g) =
      let (c, call, of) = call_at t IsCall (λ op h. h) o in
      let (b, sb) = number_of_site p s tables.sites (Made t 0) _ typed in
      let (q, rule_at) = rule_of p s names asked tables c call of.0 in
      let same = rules_agree p s names asked tables t c call q instance r of rule_at is in
      let (n, sn, gives) = gives_up p s names asked tables t c call of k instance (has_receiver p s names asked tables t c call instance of is.2) r q same r.reads q.reads same.reads site g in
      let (y, result, wn) = tables.calls.results t c call of in
      (Has y n, tied.has wn sn, known s (system.gives of.0 rule_at result ((tables.calls.fresh t c call b of).1 sb) gives))
  up (outside_writes {s = t} {instance} {r} {b} {h = site} {f} (k, o) is w g) =
      let (c, call, of) = call_at t IsCall (λ op h. h) o in
      let (q, rule_at) = rule_of p s names asked tables c call of.0 in
      let same = rules_agree p s names asked tables t c call q instance r of rule_at is in
      let instances = has_receiver p s names asked tables t c call instance of is.2 in
      let (n, sn, gives) = gives_up p s names asked tables t c call of k instance instances r q same r.written q.written same.written site g in
      let (a, e, sa, fe, writes) = writes_up p s names asked tables t c call of k instance instances r q same b f w in
      (Cell a e n, tied.cell sa fe sn, known s (system.writes of.0 rule_at writes gives))

  -- each fact that holds has a counterpart that is known
  pub all_up : (f : ProgramFact) → Holds p f → UpTo f
  all_up f h = all_in p UpTo (λ g x. up x) h.0 h.1 f h.2

-- Calls by number: those of statements, and those of the root.
use Rattle.std.proofs.Common.{◌≡◌, ◌≢◌, ◌⊎◌, ◌<◌, ◌+◌, ℕ, true, List, [], ◌∷◌, length, Contains, Some, inl, inr, refl, sym, ap, subst, ◌∙◌, arith}
use Rattle.std.specs.Prelude.{slice_get, map, AllPairs}
use Rattle.std.proofs.lemmas.Option.{same_Some}
use Rattle.slicer_ids.specs.Derivations.{IsDerivation}
use Rattle.slicer_ids.specs.declared.ids.MethodId.{MethodId}
use Rattle.slicer_ids.specs.declared.ids.SiteId.{SiteId}
use Rattle.slicer_ids.specs.declared.ids.CallId.{CallId}
use Rattle.slicer_ids.specs.declared.ids.Statement.{Statement}
use Rattle.slicer_ids.proofs.Ordered.{one_ordered}
use Rattle.class_form.specs.Opcodes.{IsCall}
use Rattle.class_form.proofs.Indices.{head_or}
use Rattle.dep_form.specs.declared.rules.Entry.{Entry}
use Rattle.dep_form.specs.declared.rules.Var.{Var}
use Rattle.dep_form.specs.declared.rules.Rule.TheVariants.{Enter, Alloc}
use Rattle.dep_form.specs.declared.system.System.{System}
use Rattle.dep_form.specs.declared.effects.ModRef.{ModRef}
use Rattle.dep_form.specs.PointsTo.{Reached, Calls}
use Rattle.dep_form.specs.Constraints.{SystemHolds, IsMethodVars}
use Rattle.dep_form.specs.Constraints as constraint
use Rattle.program_form.specs.Programs.{Program, IsRoot, IsInitializer}
use Rattle.program_form.specs.Sites.{OfRoot, of_arguments}
use Rattle.program_form.specs.Facts.{ArgumentOf, ProgramFact, Follows, Holds, calls, selects, entry_initializes}
use Rattle.program_form.specs.Effects.{IsReached, StatementIs}
use Rattle.program_form.specs.Nodes.{at, IsEntryCall, GivesArguments}
use Rattle.program_form.specs.Dependences.{Caller, AtStatement, FromRoot, GoesInto, statement, entry_call}
use Rattle.program_form.specs.Graphs.{Numbering}
use Rattle.program_form.specs.Systems.{CallNumber, VariableNumber, of_argument}
use Rattle.constraint_form.specs.Rules as rule
use Rattle.constraint_form.specs.Rules.{IsConstraint}
use Rattle.constraint_form.proofs.OnePlace.{one_place}
use Rattle.constraint_form.proofs.Instructions.{no_root}
use Rattle.constraint_form.proofs.SiteNumbers.{number_of_site}
use Rattle.program_code.proofs.Outside.{reached_there, reached_back, calls_there, calls_back}
use Rattle.fact_form.specs.EntryCalls.{root_of, IsEntered, IsGiven}
use Rattle.fact_form.specs.EdgeNumbers.{IsCallNumber}
use Rattle.fact_form.specs.EdgeNumbers as number
use Rattle.fact_form.proofs.ItemLists.{back, joined, join_left, join_right, apart, mapped, map_at, listed_as}
use Rattle.fact_form.proofs.Setting.{Setting, IsNumberingOf, IsAtCall, one_variable}

-- the last step of a derivation
pub step_of : {F : Type 0} (Rule : (F → Type 0) → F → Type 0) (fs : List F) (f : F) → IsDerivation Rule fs → Contains fs f → (gs : List F) × IsDerivation Rule gs × Rule (Contains gs) f
step_of Rule [] f d c = absurd (omega (arith, c.1))
step_of {F} Rule (x ∷ fs) f d c = elim (head_or x f fs c) [
  | inl e ↦ (fs, d.1, subst (λ (z : F). Rule (Contains fs) z) e d.0)
  | inr more ↦ step_of Rule fs f d.1 more
]

abbrev Below : MethodId → MethodId → Type 0
Below a b = a.0 < b.0

abbrev IsRootCall : Program → MethodId → Type 0
IsRootCall p t = ((e : Entry) × Contains p.entries e × (e.method ≡ t)) ⊎ (IsReached p t × IsInitializer p t)

module _ (p : Program) (s : System) (mr : ModRef) (entries : List MethodId) (g : Setting p s mr entries) where
  root : IsRoot p (root_of s)
  root = g.tables.methods

  -- a call that may go somewhere is of a method that may run
  runs : (K : ProgramFact → Type 0) (t : Statement) (m : MethodId) → Follows p K (Calls t m) → K (Reached t.method)
  runs K t m (calls run goes) = run.0
  runs K t m (selects run operand selected) = run.0

  pub calling : (t : Statement) (m : MethodId) → Holds p (Calls t m) → StatementIs p t IsCall
  calling t m h =
      let last = step_of (Follows p) h.0 (Calls t m) h.1 h.2 in
      let c = calls_there p s g.coded g.tie t m h in
      ((last.0, last.1, runs (Contains last.0) t m last.2), (g.tie.calls t).1 (c.0, c.1))

  -- THE ROOT'S CALLS

  enters_there : (e : Entry) → Contains p.entries e → IsEntered p s e.method
  enters_there e c = inl ((g.tables.constraints (root_of s) (Enter e.method)).1 (rule.enters root c))

  pub entered_there : (t : MethodId) → IsRootCall p t → IsEntered p s t
  entered_there t (inl (e, c, same)) = subst (λ z. IsEntered p s z) same (enters_there e c)
  entered_there t (inr (reached, first)) = inr (reached_there p s g.coded g.tie t reached, first)

  by_rule : (r t : MethodId) → IsRoot p r → IsConstraint p s g.names r (Enter t) → IsRootCall p t
  by_rule r t is (rule.enters {e = e} here c) = inl (e, c, refl)
  by_rule r t is (rule.entry_initializes {e} {c = n} {k} {m} here c class first) =
      inr ((Reached t ∷ [], (entry_initializes c class first, tt), (0, omega arith, refl)), (first.0, first.1, first.2, first.3, first.4, first.5))
  by_rule r t is (rule.initializes {t = u} op needs first) = absurd (no_root p g.asked u _ op is)

  pub entered_back : (t : MethodId) → IsEntered p s t → IsRootCall p t
  entered_back t (inl c) = by_rule (root_of s) t root ((g.tables.constraints (root_of s) (Enter t)).0 c)
  entered_back t (inr (reached, first)) = inr (reached_back p s g.coded g.tie t reached, first)

  pub entry_there : (k : ℕ) (t : MethodId) → IsEntryCall p k t → slice_get entries k ≡ Some t
  entry_there k t (ms, listed, at) =
      let mine = listed_as Below (IsEntered p s) (IsRootCall p) entries entered_back entered_there g.entered in
      let same = one_ordered Below (IsRootCall p) ms entries (λ a b x y lt gt. omega (arith, lt, gt)) listed mine in
      subst (λ xs. slice_get xs k ≡ Some t) same at

  pub entry_back : (k : ℕ) (t : MethodId) → slice_get entries k ≡ Some t → IsEntryCall p k t
  entry_back k t e = (entries, listed_as Below (IsEntered p s) (IsRootCall p) entries entered_back entered_there g.entered, e)

  given_for : (e : Entry) → Contains p.entries e → e.arguments ≡ true → (x : Var) → VariableNumber p s (ArgumentOf e.method 0) x → IsGiven s e.method
  given_for e c args x (of_argument {m = v} vars first) =
      let n = number_of_site p s g.tables.sites (OfRoot 0) _ (of_arguments refl) in
      (v, x, n.0, vars, first, (g.tables.constraints (root_of s) (Alloc x n.0)).1 (rule.given root c args (of_argument vars first) n.1))

  pub given_there : (t : MethodId) → GivesArguments p t → IsGiven s t
  given_there t (e, c, same, args) =
      let x = g.tables.variables.whole (ArgumentOf e.method 0) (g.asked.entries e c args) in
      subst (λ z. IsGiven s z) same (given_for e c args x.0 x.1)

  by_given : (r : MethodId) (t : MethodId) (x : Var) (h : SiteId) → VariableNumber p s (ArgumentOf t 0) x → IsRoot p r → IsConstraint p s g.names r (Alloc x h) → GivesArguments p t
  by_given r t x h number is (rule.given {e} here c args other site) =
      let same : ArgumentOf e.method 0 ≡ ArgumentOf t 0 = one_variable p s mr entries g (ArgumentOf e.method 0) (ArgumentOf t 0) x other number in
      (e, c, cc, args)
  by_given r t x h number is (rule.allocates {t = u} op value site) = absurd (no_root p g.asked u _ op is)
  by_given r t x h number is (rule.reads_fresh {t = u} op field value site) = absurd (no_root p g.asked u _ op is)

  pub given_back : (t : MethodId) → IsGiven s t → GivesArguments p t
  given_back t (v, x, h, vars, first, c) = by_given (root_of s) t x h (of_argument vars first) root ((g.tables.constraints (root_of s) (Alloc x h)).0 c)

  pub root_there : (r : MethodId) → IsRoot p r → constraint.IsRoot s r
  root_there r e = e ∙ sym g.tables.methods

  pub root_back : (r : MethodId) → constraint.IsRoot s r → IsRoot p r
  root_back r e = e ∙ g.tables.methods

  -- NUMBERS OF CALLS

  module _ (ns : Numbering) (numbers : IsNumberingOf p s mr entries ns) where
    at_statement : (n : ℕ) (t : Statement) → slice_get numbers.statements n ≡ Some (AtStatement t) → CallNumber s t (record { 0 = n })
    at_statement n t h =
        let k = back IsAtCall s.calls numbers.statements numbers.calls n (AtStatement t) h in
        let same : AtStatement t ≡ AtStatement k.2.0 = k.2.2 in
        let one : t ≡ k.2.0 = cc in
        (k.0, k.1, k.2.1 ∙ ap (λ (u : Statement). Some u) (sym one))

    pub caller_statement : (n : CallId) (t : Statement) → slice_get ns.calls n.0 ≡ Some (AtStatement t) → CallNumber s t n
    caller_statement n t e = elim (joined numbers.statements (map (λ (m : MethodId). FromRoot m) entries) n.0 (AtStatement t) (subst (λ cs. slice_get cs n.0 ≡ Some (AtStatement t)) numbers.all e)) [
      | inl h ↦ at_statement n.0 t h
      | inr w ↦ let m = mapped (λ (m : MethodId). FromRoot m) entries w.0 (AtStatement t) w.2 in let no : FromRoot m.0 ≡ AtStatement t = m.2 in absurd cc
    ]

    pub statement_caller : (n : CallId) (t : Statement) → CallNumber s t n → slice_get ns.calls n.0 ≡ Some (AtStatement t)
    statement_caller n t (k, is, place) =
        let c = numbers.calls.there n.0 k is in
        let same : c.2.0 ≡ t = same_Some c.2.0 t (sym c.2.1 ∙ place) in
        let here : slice_get numbers.statements n.0 ≡ Some (AtStatement t) = c.1 ∙ ap (λ z. Some z) c.2.2 ∙ ap (λ z. Some (AtStatement z)) same in
        subst (λ cs. slice_get cs n.0 ≡ Some (AtStatement t)) (sym numbers.all) (join_left numbers.statements _ n.0 (AtStatement t) here)

    pub root_caller : (n : CallId) (j : ℕ) (t : MethodId) → n.0 ≡ length s.calls + j → slice_get entries j ≡ Some t → slice_get ns.calls n.0 ≡ Some (FromRoot t)
    root_caller n j t e h =
        subst (λ cs. slice_get cs n.0 ≡ Some (FromRoot t)) (sym numbers.all)
        (join_right numbers.statements _ j n.0 (FromRoot t) (omega (arith, e, numbers.calls.size)) (map_at (λ (m : MethodId). FromRoot m) entries j t h))

    no_root_statement : (n : ℕ) (t : MethodId) → slice_get numbers.statements n ≡ Some (FromRoot t) → ⊥
    no_root_statement n t h =
        let k = back IsAtCall s.calls numbers.statements numbers.calls n (FromRoot t) h in
        let no : FromRoot t ≡ AtStatement k.2.0 = k.2.2 in
        absurd cc

    from_root : (j : ℕ) (t : MethodId) → slice_get (map (λ (m : MethodId). FromRoot m) entries) j ≡ Some (FromRoot t) → slice_get entries j ≡ Some t
    from_root j t h =
        let m = mapped (λ (m : MethodId). FromRoot m) entries j (FromRoot t) h in
        let e : FromRoot m.0 ≡ FromRoot t = m.2 in
        let same : m.0 ≡ t = cc in
        m.1 ∙ ap (λ z. Some z) same

    pub caller_root : (n : CallId) (t : MethodId) → slice_get ns.calls n.0 ≡ Some (FromRoot t) → (j : ℕ) × (n.0 ≡ length s.calls + j) × (slice_get entries j ≡ Some t)
    caller_root n t e = elim (joined numbers.statements (map (λ (m : MethodId). FromRoot m) entries) n.0 (FromRoot t) (subst (λ cs. slice_get cs n.0 ≡ Some (FromRoot t)) numbers.all e)) [
      | inl h ↦ absurd (no_root_statement n.0 t h)
      | inr w ↦ (w.0, omega (arith, w.1, numbers.calls.size), from_root w.0 t w.2)
    ]

    pub one_entry : (i j : ℕ) (t : MethodId) → slice_get entries i ≡ Some t → slice_get entries j ≡ Some t → i ≡ j
    one_entry i j t e f = one_place Below entries g.entered.order (λ a lt. omega (arith, lt)) i j t e f

    one_caller : (i j : ℕ) (c : Caller) → slice_get ns.calls i ≡ Some c → slice_get ns.calls j ≡ Some c → i ≡ j
    one_caller i j (AtStatement t) e f = ap (λ (c : CallId). c.0) (g.tie.one_call t (record { 0 = i }) (record { 0 = j }) (caller_statement (record { 0 = i }) t e) (caller_statement (record { 0 = j }) t f))
    one_caller i j (FromRoot t) e f =
        let a = caller_root (record { 0 = i }) t e in
        let b = caller_root (record { 0 = j }) t f in
        omega (arith, a.1, b.1, one_entry a.0 b.0 t a.2 b.2)

    pub calls_apart : AllPairs (λ (a b : Caller). a ≢ b) ns.calls
    calls_apart = apart ns.calls one_caller

    -- who calls, and the number of the call
    pub goes_there : (c : Caller) (n : CallId) (m : MethodId) (pc : ℕ) (t : MethodId) → slice_get ns.calls n.0 ≡ Some c → GoesInto p c m pc t → IsCallNumber s entries n m pc t
    goes_there c n m pc t e (statement h) =
        let k = calls_there p s g.coded g.tie (at m pc) t h in
        let same = g.tie.one_call (at m pc) k.0 n k.1 (caller_statement n (at m pc) e) in
        let here = caller_statement n (at m pc) e in
        number.statement (here.1, here.2) (subst (λ (z : CallId). SystemHolds s (Calls z t)) same k.2)
    goes_there c n m pc t e (entry_call is entry) =
        let j = caller_root n t e in
        let same = one_entry j.0 pc t j.2 (entry_there pc t entry) in
        number.entry_call (root_there m is) (entry_there pc t entry) (omega (arith, j.1, same))

    pub goes_back : (n : CallId) (m : MethodId) (pc : ℕ) (t : MethodId) → IsCallNumber s entries n m pc t → (c : Caller) × (slice_get ns.calls n.0 ≡ Some c) × GoesInto p c m pc t
    goes_back n m pc t (number.statement {k} is h) =
        (AtStatement (at m pc), statement_caller n (at m pc) (k, is.0, is.1), statement (calls_back p s g.coded g.tie (at m pc) n t (k, is.0, is.1) h))
    goes_back n m pc t (number.entry_call is entry e) = (FromRoot t, root_caller n pc t e entry, entry_call (root_back m is) (entry_back pc t entry))

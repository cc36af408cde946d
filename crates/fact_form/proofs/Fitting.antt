-- What the edges of the tables join.
use Rattle.std.proofs.Common.{◌≡◌, ◌<◌, ℕ, true, List, length, Contains, Option, Some, inl, inr, refl, sym, ap, subst, ◌∙◌, arith}
use Rattle.std.proofs.lemmas.Option.{same_Some, slice_get_within}
use Rattle.std.proofs.lemmas.List.Elements.{All-contains}
use Rattle.slicer_ids.specs.declared.ids.MethodId.{MethodId}
use Rattle.slicer_ids.specs.declared.ids.NodeId.{NodeId}
use Rattle.slicer_ids.specs.declared.ids.CallId.{CallId}
use Rattle.slicer_ids.specs.declared.ids.Statement.{Statement}
use Rattle.class_form.specs.Opcodes.{IsCall}
use Rattle.class_form.specs.declared.body.SlotUse.{SlotUse}
use Rattle.class_form.specs.declared.body.Def.{Def}
use Rattle.class_form.proofs.Indices.{there_at, index_in}
use Rattle.dep_form.specs.declared.node.Node.{Node as NodeNumber}
use Rattle.dep_form.specs.declared.node.Node.TheVariants as kind
use Rattle.dep_form.specs.declared.node.Edge.{Edge}
use Rattle.dep_form.specs.declared.node.Label.{Label}
use Rattle.dep_form.specs.declared.node.Label.TheVariants.{Thin, Call, Return}
use Rattle.dep_form.specs.declared.input.MethodInput.{MethodInput}
use Rattle.dep_form.specs.declared.access.Access.{Access}
use Rattle.dep_form.specs.declared.rules.Rule.TheVariants.{Enter}
use Rattle.dep_form.specs.declared.rules.Constraint.{Constraint}
use Rattle.dep_form.specs.declared.call_site.CallSite.{CallSite}
use Rattle.dep_form.specs.declared.system.System.{System}
use Rattle.dep_form.specs.declared.effects.ModRef.{ModRef}
use Rattle.dep_form.specs.PointsTo.{Reached, Calls}
use Rattle.dep_form.specs.Constraints.{SystemHolds}
use Rattle.dep_form.specs.Nodes.{is_exit, own_pc}
use Rattle.dep_form.specs.Inputs.{IsInputOf, IsNode, IsHeapFlow, IsEdge, IsExitNode}
use Rattle.dep_form.specs.WithinFacts.{InOneMethod, IsFit, IsCallerEnd}
use Rattle.dep_form.proofs.WithinSystem.{rule_within}
use Rattle.program_form.specs.Programs.{Program}
use Rattle.program_form.specs.Facts.{ProgramFact, Follows, Holds, calls, selects}
use Rattle.program_form.specs.Nodes.{at}
use Rattle.program_form.specs.Dependences.{Takes}
use Rattle.program_form.specs.Values.{IsAccessOpcode}
use Rattle.constraint_form.proofs.Instructions.{apart}
use Rattle.program_code.proofs.Outside.{calls_back}
use Rattle.fact_form.specs.EntryCalls.{root_of, IsEntered}
use Rattle.fact_form.specs.NodeNumbers.{IsNumbered}
use Rattle.fact_form.specs.NodeNumbers as number
use Rattle.fact_form.specs.EdgeNumbers.{IsTakerNumber, IsCallNumber, IsDirect}
use Rattle.fact_form.specs.EdgeNumbers as direct
use Rattle.fact_form.specs.FactTables.{AreInputs, AreAccesses}
use Rattle.fact_form.proofs.Setting.{Setting}
use Rattle.fact_form.proofs.CallNumbers.{step_of}
use Rattle.fact_form.proofs.BaseOperands.{base_access}

-- no access is a call
no_call : (op : ℕ) → IsAccessOpcode op → IsCall op → ⊥
no_call op (inl a) c = omega (arith, a, c)
no_call op (inr (inl a)) c = omega (arith, a, c)
no_call op (inr (inr (inl a))) c = omega (arith, a, c)
no_call op (inr (inr (inr (inl a)))) c = omega (arith, a, c)
no_call op (inr (inr (inr (inr a)))) c = omega (arith, a, c)

module _ (p : Program) (s : System) (mr : ModRef) (entries : List MethodId) (g : Setting p s mr entries) where
  -- METHODS THAT ARE CALLED HAVE NUMBERS

  target_of : (K : ProgramFact → Type 0) (t : Statement) (m : MethodId) → Follows p K (Calls t m) → m.0 < length p.methods
  target_of K t m (calls run (key, d, names, target, found)) = slice_get_within p.methods m.0 d target.0
  target_of K t m (selects run operand (key, d, name, c, names, object, named, selected, target)) = slice_get_within p.methods m.0 d target.0

  entered_method : (t : MethodId) → IsEntered p s t → t.0 < length s.methods
  entered_method t (inl c) =
      let e : Constraint = record { method = root_of s; rule = Enter t } in
      let i = index_in s.constraints e c in
      rule_within s i.0 e i.1
  entered_method t (inr (reached, (d, x, name, bytes, method, first))) = omega (arith, slice_get_within p.methods t.0 d method.0, g.tables.methods)

  pub target_in_range : (c : CallId) (m : MethodId) (pc : ℕ) (t : MethodId) → IsCallNumber s entries c m pc t → t.0 < length s.methods
  target_in_range c m pc t (direct.statement {k} is h) =
      let holds : Holds p (Calls (at m pc) t) = calls_back p s g.coded g.tie (at m pc) c t (k, is.0, is.1) h in
      let last = step_of (Follows p) holds.0 (Calls (at m pc) t) holds.1 holds.2 in
      omega (arith, target_of (Contains last.0) (at m pc) t last.2, g.tables.methods)
  target_in_range c m pc t (direct.entry_call {n} is entry e) = entered_method t (All-contains (IsEntered p s) entries t g.entered.each (there_at entries pc t entry))

  -- A CALL HAS ONE CALLER

  one_caller_of : (c : CallId) (m n : MethodId) (pc q : ℕ) (t u : MethodId) → IsCallNumber s entries c m pc t → IsCallNumber s entries c n q u → m ≡ n
  one_caller_of c m n pc q t u (direct.statement {k} is h) (direct.statement {k = l} other i) =
      let same : k ≡ l = same_Some k l (sym is.0 ∙ other.0) in
      let place : at m pc ≡ at n q = same_Some (at m pc) (at n q) (sym is.1 ∙ ap (λ (z : CallSite). z.place) same ∙ other.1) in
      ap (λ (z : Statement). z.method) place
  one_caller_of c m n pc q t u (direct.statement {k} is h) (direct.entry_call root entry e) = absurd (omega (arith, slice_get_within s.calls c.0 k is.0, e))
  one_caller_of c m n pc q t u (direct.entry_call root entry e) (direct.statement {k} is h) = absurd (omega (arith, slice_get_within s.calls c.0 k is.0, e))
  one_caller_of c m n pc q t u (direct.entry_call root entry e) (direct.entry_call other there f) = ap (λ k. record { 0 = k }) (root ∙ sym other)

  caller_of_call : (a m : MethodId) (k j : NodeNumber) (l : Label) → IsDirect p s entries a k m j l → (c : CallId) → l ≡ Call c → (pc : ℕ) × (t : MethodId) × IsCallNumber s entries c a pc t
  caller_of_call a m k j l (direct.producer takes definition taker b) c e = absurd cc
  caller_of_call a m k j l (direct.base takes definition taker b) c e = absurd cc
  caller_of_call a m k j l (direct.returns op) c e = absurd cc
  caller_of_call a m k j l (direct.throws op leaves) c e = absurd cc
  caller_of_call a m k j l (direct.passes_on op leaves) c e = absurd cc
  caller_of_call a m k j l (direct.to_result o is out) c e = absurd cc
  caller_of_call a m k j l (direct.to_call o is out rule among) c e = absurd cc
  caller_of_call a m k j l (direct.again root) c e = absurd cc
  caller_of_call a m k j l (direct.argument {c = n} {pc} is) c e = let same : n ≡ c = cc in (pc, m, subst (λ (z : CallId). IsCallNumber s entries z a pc m) same is)
  caller_of_call a m k j l (direct.location {c = n} {pc} is) c e = let same : n ≡ c = cc in (pc, m, subst (λ (z : CallId). IsCallNumber s entries z a pc m) same is)
  caller_of_call a m k j l (direct.answer is) c e = absurd cc
  caller_of_call a m k j l (direct.exception is) c e = absurd cc
  caller_of_call a m k j l (direct.location_back is) c e = absurd cc

  caller_of_return : (a m : MethodId) (k j : NodeNumber) (l : Label) → IsDirect p s entries a k m j l → (c : CallId) → l ≡ Return c → (pc : ℕ) × (t : MethodId) × IsCallNumber s entries c m pc t
  caller_of_return a m k j l (direct.producer takes definition taker b) c e = absurd cc
  caller_of_return a m k j l (direct.base takes definition taker b) c e = absurd cc
  caller_of_return a m k j l (direct.returns op) c e = absurd cc
  caller_of_return a m k j l (direct.throws op leaves) c e = absurd cc
  caller_of_return a m k j l (direct.passes_on op leaves) c e = absurd cc
  caller_of_return a m k j l (direct.to_result o is out) c e = absurd cc
  caller_of_return a m k j l (direct.to_call o is out rule among) c e = absurd cc
  caller_of_return a m k j l (direct.again root) c e = absurd cc
  caller_of_return a m k j l (direct.argument is) c e = absurd cc
  caller_of_return a m k j l (direct.location is) c e = absurd cc
  caller_of_return a m k j l (direct.answer {c = n} {pc} is) c e = let same : n ≡ c = cc in (pc, a, subst (λ (z : CallId). IsCallNumber s entries z m pc a) same is)
  caller_of_return a m k j l (direct.exception {c = n} {pc} is) c e = let same : n ≡ c = cc in (pc, a, subst (λ (z : CallId). IsCallNumber s entries z m pc a) same is)
  caller_of_return a m k j l (direct.location_back {c = n} {pc} is) c e = let same : n ≡ c = cc in (pc, a, subst (λ (z : CallId). IsCallNumber s entries z m pc a) same is)

  module _ (inputs : List (Option MethodInput)) (tables : AreInputs p s mr entries inputs) where
    pub is_numbered : (x : NodeId) (m : MethodId) (k : NodeNumber) → IsNode inputs x m k → IsNumbered p s mr entries m k
    is_numbered x m k (i, is, of) = All-contains (IsNumbered p s mr entries m) i.nodes k (tables.each m i is).nodes.each (there_at i.nodes _ k of.1)

    own_runs : (m : MethodId) (pc : ℕ) → IsNumbered p s mr entries m (kind.Own pc) → SystemHolds s (Reached m)
    own_runs m pc (number.own reached op) = reached

    -- the end of an edge of a call that lies with the caller
    abbrev Caller : CallId → NodeId → Type 0
    Caller c x = (m : MethodId) × (pc : ℕ) × (t : MethodId) × (k : NodeNumber) × IsCallNumber s entries c m pc t × IsNode inputs x m k

    caller_end : (e : Edge) → IsEdge inputs e → (c : CallId) (x : NodeId) → IsCallerEnd e c x → Caller c x
    caller_end e (m, i, is, inr (flow, thin)) c x (inl (label, same)) = let no : Thin ≡ Call c = sym thin ∙ label in absurd cc
    caller_end e (m, i, is, inr (flow, thin)) c x (inr (label, same)) = let no : Thin ≡ Return c = sym thin ∙ label in absurd cc
    caller_end e (m, i, is, inl listed) c x (inl (label, same)) =
        let (a, k, j, from, to, is_direct) = ((tables.each m i is).direct e).0 listed in
        let w = caller_of_call a m k j e.label is_direct c label in
        (a, w.0, w.1, k, w.2, subst (λ (z : NodeId). IsNode inputs z a k) (sym same) from)
    caller_end e (m, i, is, inl listed) c x (inr (label, same)) =
        let (a, k, j, from, to, is_direct) = ((tables.each m i is).direct e).0 listed in
        let w = caller_of_return a m k j e.label is_direct c label in
        (m, w.0, w.1, j, w.2, subst (λ (z : NodeId). IsNode inputs z m j) (sym same) (i, is, to))

    pub one_caller : (c : CallId) (e h : Edge) (a b : NodeId) → IsEdge inputs e → IsEdge inputs h → IsCallerEnd e c a → IsCallerEnd h c b → InOneMethod inputs a b
    one_caller c e h a b x y first second =
        let u = caller_end e x c a first in
        let v = caller_end h y c b second in
        let same = one_caller_of c u.0 v.0 u.1 v.1 u.2 v.2 u.4 v.4 in
        (u.0, u.3, v.3, u.5, subst (λ (z : MethodId). IsNode inputs b z v.3) (sym same) v.5)

    -- WHAT EDGES JOIN

    module _ (accesses : List (Statement × Access)) (listed : AreAccesses p s inputs accesses) where
      abbrev Accessed : NodeId → Type 0
      Accessed x = (t : Statement) × (a : Access) × (k : NodeNumber) × Contains accesses (t, a) × IsNode inputs x t.method k × (own_pc k ≡ Some t.pc)

      base_end : (m : MethodId) (pc : ℕ) (u : SlotUse) (d : Def) (j : NodeNumber) → Takes p (at m pc) u d → IsTakerNumber p m pc u.operand j → u.base ≡ true → (x : NodeId) → IsNode inputs x m j → Accessed x
      base_end m pc u d j takes (direct.at_own op) b x is =
          let access = base_access p g.coded (at m pc) u d takes b in
          let runs = own_runs m pc (is_numbered x m (kind.Own pc) is) in
          let a = (listed.listed (at m pc)).1 (runs, access) in
          (at m pc, a.0, kind.Own pc, a.1, is, refl)
      base_end m pc u d j takes (direct.at_argument op) b x is = absurd (apart p g.asked (at m pc) IsAccessOpcode IsCall no_call (base_access p g.coded (at m pc) u d takes b) op)

      exit_at : (x : NodeId) (c : CallId) (m : MethodId) (pc : ℕ) (t : MethodId) (k : NodeNumber) → IsCallNumber s entries c m pc t → IsNode inputs x t k → is_exit k ≡ true → (t : MethodId) × IsExitNode inputs x t
      exit_at x c m pc t k number is exit = (t, (k, is, exit, omega (arith, target_in_range c m pc t number, tables.methods)))

      fit_direct : (e : Edge) (a m : MethodId) (k j : NodeNumber) (l : Label) → IsDirect p s entries a k m j l → IsNode inputs e.from a k → IsNode inputs e.to m j → IsFit inputs accesses e l
      fit_direct e a m k j l (direct.producer takes definition taker b) from to = (m, k, j, from, to)
      fit_direct e a m k j l (direct.base {pc} {u} {d} takes definition taker b) from to =
          let x = base_end m pc u d j takes taker b e.to to in
          ((m, k, j, from, to), x.0, x.1, x.2, x.3, x.4, x.5)
      fit_direct e a m k j l (direct.returns op) from to = (m, k, j, from, to)
      fit_direct e a m k j l (direct.throws op leaves) from to = (m, k, j, from, to)
      fit_direct e a m k j l (direct.passes_on op leaves) from to = (m, k, j, from, to)
      fit_direct e a m k j l (direct.to_result o is out) from to = (m, k, j, from, to)
      fit_direct e a m k j l (direct.to_call o is out rule among) from to = (m, k, j, from, to)
      fit_direct e a m k j l (direct.again root) from to = (m, k, j, from, to)
      fit_direct e a m k j l (direct.argument is) from to = (m, j, to, refl)
      fit_direct e a m k j l (direct.location is) from to = (m, j, to, refl)
      fit_direct e a m k j l (direct.answer {c} {m = q} {t} {pc} is) from to = exit_at e.from c q pc t k is from refl
      fit_direct e a m k j l (direct.exception {c} {m = q} {t} {pc} is) from to = exit_at e.from c q pc t k is from refl
      fit_direct e a m k j l (direct.location_back {c} {m = q} {t} {pc} is) from to = exit_at e.from c q pc t k is from refl

      heap_fit : (m : MethodId) (i : MethodInput) → IsInputOf inputs m i → (a b : NodeId) → IsHeapFlow i a b → InOneMethod inputs a b
      heap_fit m i is a b (n, inl (q, r, put, get, leads)) =
          let x = ((tables.each m i is).puts q a n).0 put in
          let y = ((tables.each m i is).gets r b n).0 get in
          (m, x.1, y.1, (i, is, x.3), (i, is, y.3))
      heap_fit m i is a b (n, inr (inl (q, of, get))) =
          let y = ((tables.each m i is).gets q b n).0 get in
          (m, kind.HeapIn n, y.1, (i, is, of), (i, is, y.3))
      heap_fit m i is a b (n, inr (inr (q, put, of))) =
          let x = ((tables.each m i is).puts q a n).0 put in
          (m, x.1, kind.HeapOut n, (i, is, x.3), (i, is, of))

      pub fit : (e : Edge) → IsEdge inputs e → IsFit inputs accesses e e.label
      fit e (m, i, is, inr (flow, thin)) = subst (λ z. IsFit inputs accesses e z) (sym thin) (heap_fit m i is e.from e.to flow)
      fit e (m, i, is, inl c) =
          let (a, k, j, from, to, is_direct) = ((tables.each m i is).direct e).0 c in
          fit_direct e a m k j e.label is_direct from (i, is, to)

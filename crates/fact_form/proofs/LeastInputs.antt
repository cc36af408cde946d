-- The inputs of the least program: one edge, from the argument that the root gives to main's.
use Rattle.std.proofs.Common.{◌≡◌, ◌⊎◌, ◌<◌, ◌≤◌, ◌+◌, ◌-◌, ◌^◌, ℕ, zero, suc, true, List, [], ◌∷◌, take, get_or, Option, Some, Contains, refl, sym, ap, subst, ◌∙◌, inl, inr, arith}
use Rattle.std.specs.Prelude.{slice_get}
use Rattle.std.specs.List.Sorted.{IsPartitionedBy}
use Rattle.std.proofs.lemmas.Option.{same_Some}
use Rattle.slicer_ids.specs.declared.ids.MethodId.{MethodId}
use Rattle.slicer_ids.specs.declared.ids.NodeId.{NodeId}
use Rattle.slicer_ids.specs.declared.ids.LocId.{LocId}
use Rattle.slicer_ids.specs.declared.ids.CallId.{CallId}
use Rattle.slicer_ids.specs.declared.ids.Statement.{Statement}
use Rattle.class_form.specs.Opcodes.{IsCall, IsThrow, IsValueReturn}
use Rattle.class_form.specs.declared.body.Body.{Body}
use Rattle.class_form.specs.declared.body.Point.{Point}
use Rattle.class_form.specs.declared.body.SlotUse.{SlotUse}
use Rattle.class_form.specs.declared.body.Def.{Def}
use Rattle.dep_form.specs.declared.node.Node.{Node as NodeNumber}
use Rattle.dep_form.specs.declared.node.Node.TheVariants.{Formal, Own, Argument, HeapArg, HeapResult, Return, Thrown, HeapOut}
use Rattle.dep_form.specs.declared.node.Edge.{Edge}
use Rattle.dep_form.specs.declared.node.Label.{Label}
use Rattle.dep_form.specs.declared.node.Label.TheVariants.{Call}
use Rattle.dep_form.specs.declared.input.MethodInput.{MethodInput}
use Rattle.dep_form.specs.declared.system.System.{System}
use Rattle.dep_form.specs.declared.effects.Location.TheVariants.{Cell}
use Rattle.dep_form.specs.Among.{IsAmong}
use Rattle.dep_form.specs.Nodes.{is_formal, is_exit, ComesBefore}
use Rattle.dep_form.specs.Inputs.{IsInputOf, IsNodeOf, IsNode, IsExitNode}
use Rattle.dep_form.specs.Graphs.{EdgeBefore}
use Rattle.dep_form.specs.Firsts.{node_count}
use Rattle.dep_form.specs.WithinFacts.{FollowOn, NodeBefore}
use Rattle.dep_form.specs.PointsTo.{Reached}
use Rattle.dep_form.specs.Constraints.{SystemHolds}
use Rattle.slicer_ids.specs.Sets.{IsOrderedListOf}
use Rattle.program_form.specs.Dependences.{Takes}
use Rattle.program_form.specs.Nodes.{at}
use Rattle.program_form.specs.Systems.{IsSystemOf}
use Rattle.constraint_form.specs.ConstraintSystems.{IsConstraintSystem}
use Rattle.program_form.specs.Tiny.{tiny_program, tiny_method, tiny_body, tiny_point}
use Rattle.program_form.proofs.Tiny.{single, never}
use Rattle.program_form.proofs.TinySystem.{root}
use Rattle.program_form.proofs.QuietFacts.{no_item, no_place, pairs_none, pairs_one}
use Rattle.fact_form.specs.EdgeNumbers.{IsDirect, producer, base, returns, throws, passes_on, to_result, to_call, again, argument, location, answer, exception, location_back, IsCallNumber, statement, entry_call}
use Rattle.fact_form.specs.EffectNumbers.{DefinesNumber, UsesNumber}
use Rattle.fact_form.specs.EffectNumbers as effect
use Rattle.fact_form.specs.FactTables.{IsPointAt, IsFlowAt, StepBefore, UseBefore, IsInputFor, AreInputs, AreNodeRows}
use Rattle.fact_form.specs.NodeNumbers.{IsNumbered}
use Rattle.fact_form.proofs.LeastNodes.{none_of, no_call_of, no_calls, one_method, is_root, root_is, same_method, same_root, apart, least_effects, entries, entry_at, IsThere, there, main_reached, only_main, main_nodes, root_nodes}

-- THE INPUTS

abbrev pub main_list : List NodeNumber
main_list = Formal 0 ∷ Own 0 ∷ []

-- the argument that the root gives flows into main's
abbrev pub giving : Edge
giving = record { from = record { 0 = 2 }; to = record { 0 = 0 }; label = Call (record { 0 = 0 }) }

pub formal_first : IsPartitionedBy is_formal main_list
formal_first i zero d le lt e = let same : i ≡ 0 = omega (arith, le) in subst (λ k. is_formal (get_or main_list k d) ≡ true) (sym same) e
formal_first i (suc zero) d le lt e = absurd (cc e)
formal_first i (suc (suc j)) d le lt e = absurd (omega (arith, lt))

pub formal_none : IsPartitionedBy is_formal (Argument 0 0 ∷ [])
formal_none i zero d le lt e = absurd (cc e)
formal_none i (suc j) d le lt e = absurd (omega (arith, lt))

pub two_small : 0 + 2 ≤ 2 ^ 32
two_small = omega arith

pub two_few : 2 < 2 ^ 32
two_few = omega arith

pub three_small : 2 + 1 ≤ 2 ^ 32
three_small = omega arith

pub one_few : 1 < 2 ^ 32
one_few = omega arith

pub giving_ends : (e : Edge) → Contains (giving ∷ []) e → IsAmong 0 main_list e.to.0
giving_ends e c = subst (λ (x : Edge). IsAmong 0 main_list x.to.0) (single giving e c) (omega arith, omega arith)

abbrev pub main_input : MethodInput
main_input = record {
  method = record { 0 = 0 };
  first = record { 0 = 0 };
  nodes = Formal 0 ∷ Own 0 ∷ [];
  points = 1;
  flow = [];
  direct = giving ∷ [];
  puts = [];
  gets = [];
  small = two_small;
  few = two_few;
  formals_first = formal_first;
  ends = giving_ends;
  puts_among = λ e c. no_item e c;
  gets_among = λ e c. no_item e c;
  flow_within = λ e c. no_item e c;
  puts_within = λ e c. no_item e c;
  gets_within = λ e c. no_item e c;
}

abbrev pub root_input : MethodInput
root_input = record {
  method = record { 0 = 1 };
  first = record { 0 = 2 };
  nodes = Argument 0 0 ∷ [];
  points = 0;
  flow = [];
  direct = [];
  puts = [];
  gets = [];
  small = three_small;
  few = one_few;
  formals_first = formal_none;
  ends = λ e c. no_item e c;
  puts_among = λ e c. no_item e c;
  gets_among = λ e c. no_item e c;
  flow_within = λ e c. no_item e c;
  puts_within = λ e c. no_item e c;
  gets_within = λ e c. no_item e c;
}

abbrev pub inputs : List (Option MethodInput)
inputs = Some main_input ∷ Some root_input ∷ []

input_at : (m : ℕ) (o : Option MethodInput) → slice_get inputs m ≡ Some o → ((m ≡ 0) × (o ≡ Some main_input)) ⊎ ((m ≡ 1) × (o ≡ Some root_input))
input_at zero o e = inl (refl, same_Some o (Some main_input) (sym e))
input_at (suc zero) o e = inr (refl, same_Some o (Some root_input) (sym e))
input_at (suc (suc m)) o e = absurd cc

-- the method of an input is main or the root
pub the_input : (m : MethodId) (i : MethodInput) → IsInputOf inputs m i → ((m ≡ tiny_method) × (i ≡ main_input)) ⊎ ((m ≡ root) × (i ≡ root_input))
the_input m i e = elim (input_at m.0 (Some i) e) [
  | inl w ↦ inl (same_method m w.0, same_Some i main_input w.1)
  | inr w ↦ inr (same_root m w.0, same_Some i root_input w.1)
]

pub follow : FollowOn inputs
follow m i e = elim (input_at m (Some i) e) [
  | inl w ↦
      let is : main_input ≡ i = sym (same_Some i main_input w.1) in
      subst (λ (x : MethodInput). (x.method.0 ≡ m) × (x.first.0 ≡ node_count (take m inputs))) is (subst (λ n. (0 ≡ n) × (0 ≡ node_count (take n inputs))) (sym w.0) (refl, refl))
  | inr w ↦
      let is : root_input ≡ i = sym (same_Some i root_input w.1) in
      subst (λ (x : MethodInput). (x.method.0 ≡ m) × (x.first.0 ≡ node_count (take m inputs))) is (subst (λ n. (1 ≡ n) × (2 ≡ node_count (take n inputs))) (sym w.0) (refl, refl))
]

-- THE NUMBERS OF THE NODES

abbrev IsOfMain : NodeId → NodeNumber → Type 0
IsOfMain n k = ((n.0 ≡ 0) × (k ≡ Formal 0)) ⊎ ((n.0 ≡ 1) × (k ≡ Own 0))

of_main : (n : NodeId) (k : NodeNumber) → IsNodeOf main_input n k → IsOfMain n k
of_main n k h = by_place n.0 (subst (λ j. slice_get main_list j ≡ Some k) (sub_zero n.0) h.1)
  where
    sub_zero : (a : ℕ) → a - 0 ≡ a
    sub_zero a = omega arith

    by_place : (j : ℕ) → slice_get main_list j ≡ Some k → ((j ≡ 0) × (k ≡ Formal 0)) ⊎ ((j ≡ 1) × (k ≡ Own 0))
    by_place zero e = inl (refl, same_Some k (Formal 0) (sym e))
    by_place (suc zero) e = inr (refl, same_Some k (Own 0) (sym e))
    by_place (suc (suc j)) e = absurd cc

of_root : (n : NodeId) (k : NodeNumber) → IsNodeOf root_input n k → (n.0 ≡ 2) × (k ≡ Argument 0 0)
of_root n k h = let place = by_place (n.0 - 2) h.1 in (omega (arith, place.0, h.0), place.1)
  where
    by_place : (j : ℕ) → slice_get (Argument 0 0 ∷ []) j ≡ Some k → (j ≡ 0) × (k ≡ Argument 0 0)
    by_place zero e = (refl, same_Some k (Argument 0 0) (sym e))
    by_place (suc j) e = absurd cc

-- the three nodes, each with its number
abbrev pub IsNumberedThere : NodeId → MethodId → NodeNumber → Type 0
IsNumberedThere n m k = ((m ≡ tiny_method) × IsOfMain n k) ⊎ ((m ≡ root) × (n.0 ≡ 2) × (k ≡ Argument 0 0))

pub node_at : (n : NodeId) (m : MethodId) (k : NodeNumber) → IsNode inputs n m k → IsNumberedThere n m k
node_at n m k (i, is, of) = elim (the_input m i is) [
  | inl w ↦ inl (w.0, of_main n k (subst (λ (x : MethodInput). IsNodeOf x n k) w.1 of))
  | inr w ↦ let x = of_root n k (subst (λ (y : MethodInput). IsNodeOf y n k) w.1 of) in inr (w.0, x.0, x.1)
]

there_at : (n : NodeId) (m : MethodId) (k : NodeNumber) → IsNode inputs n m k → IsThere m k
there_at n m k is = elim (node_at n m k is) [
  | inl w ↦ inl (w.0, elim w.1 [ inl e ↦ inl e.1 | inr e ↦ inr e.1 ])
  | inr w ↦ inr (w.0, w.2)
]

-- a kind that none of them has
abbrev IsOther : NodeNumber → Type 0
IsOther (Formal i) = ⊥
IsOther (Own pc) = ⊥
IsOther (Argument pc i) = ⊥
IsOther k = Unit {0}

not_there : (m : MethodId) (k : NodeNumber) → IsOther k → IsThere m k → ⊥
not_there m k other (inl (e, inl f)) = subst IsOther f other
not_there m k other (inl (e, inr f)) = subst IsOther f other
not_there m k other (inr (e, f)) = subst IsOther f other

no_exit : (n : NodeId) (m : MethodId) → IsExitNode inputs n m → ⊥
no_exit n m (k, is, exits, lt) = elim (there_at n m k is) [
  | inl w ↦ elim w.1 [ inl e ↦ absurd (cc (subst (λ x. is_exit x ≡ true) e exits)) | inr e ↦ absurd (cc (subst (λ x. is_exit x ≡ true) e exits)) ]
  | inr w ↦ absurd (cc (subst (λ x. is_exit x ≡ true) w.1 exits))
]

pub no_exits : IsOrderedListOf NodeBefore [] (λ n. (m : MethodId) × IsExitNode inputs n m)
no_exits = none_of NodeBefore (λ n. (m : MethodId) × IsExitNode inputs n m) (λ n h. no_exit n h.0 h.1)

-- THE EDGE

-- main's instruction takes nothing
pub no_operand : (t : Statement) (u : SlotUse) (d : Def) → Takes tiny_program t u d → ⊥
no_operand t u d (b, i, point, is, (among, pc), uses, holds) =
    let points : Contains (tiny_point ∷ []) point = subst (λ (x : Body). Contains x.shape.points point) (sym (single tiny_body b is.0)) among in
    no_item u (subst (λ (x : Point). Contains x.uses u) (sym (single tiny_point point points)) uses)

-- CONTROL AND LOCATIONS: THERE IS NO STEP, NO DEFINITION AND NO USE

no_flow : (m : MethodId) (q r : ℕ) → IsFlowAt tiny_program m q r → ⊥
no_flow m q r (b, t, u, (among, of), at, there, (point, (is, pc), inl next)) =
    let points : Contains (tiny_point ∷ []) point = subst (λ (x : Body). Contains x.shape.points point) (sym (single tiny_body b among)) is in
    no_item u.pc (subst (λ (x : Point). Contains x.next u.pc) (sym (single tiny_point point points)) next)
no_flow m q r (b, t, u, (among, of), at, there, (point, (is, pc), inr handler)) =
    let points : Contains (tiny_point ∷ []) point = subst (λ (x : Body). Contains x.shape.points point) (sym (single tiny_body b among)) is in
    no_item u.pc (subst (λ (x : Point). Contains x.handlers u.pc) (sym (single tiny_point point points)) handler)

-- main has one point
the_point : (q pc : ℕ) (m : MethodId) → IsPointAt tiny_program m q pc → (q ≡ 0) × (m ≡ tiny_method)
the_point q pc m (b, t, (among, of), at, is) =
    let body = single tiny_body b among in
    (by_place q t (subst (λ (x : Body). slice_get x.shape.points q ≡ Some t) (sym body) at), sym (ap (λ (x : Body). x.method) body ∙ of))
  where
    by_place : (k : ℕ) (x : Point) → slice_get (tiny_point ∷ []) k ≡ Some x → k ≡ 0
    by_place zero x e = refl
    by_place (suc k) x e = absurd cc

module _ (s : System) (system : IsConstraintSystem tiny_program s) (tie : IsSystemOf tiny_program s) where
  abbrev Direct : MethodId → NodeNumber → MethodId → NodeNumber → Label → Type 0
  Direct = IsDirect tiny_program s entries

  abbrev IsGiving : MethodId → NodeNumber → MethodId → NodeNumber → Label → Type 0
  IsGiving a k m j l = (a ≡ root) × (k ≡ Argument 0 0) × (m ≡ tiny_method) × (j ≡ Formal 0) × (l ≡ Call (record { 0 = 0 }))

  -- the first argument of a call of the root
  first_argument : (m : MethodId) (pc i : ℕ) → IsThere m (Argument pc i) → i ≡ 0
  first_argument m pc i (inl (e, inl f)) = absurd (cc f)
  first_argument m pc i (inl (e, inr f)) = absurd (cc f)
  first_argument m pc i (inr (e, f)) = cc f

  root_call : {c : CallId} {m t : MethodId} {pc : ℕ} → IsCallNumber s entries c m pc t → (m ≡ root) × (pc ≡ 0) × (t ≡ tiny_method) × (c ≡ record { 0 = 0 })
  root_call (statement {c} {k} is calls) = absurd (no_call_of s system tie _ c k is)
  root_call (entry_call {r} {n} {c} {t} is e number) =
      let place = entry_at n t e in
      (is_root s system tie r is, place.0, place.1, ap (λ k. record { 0 = k }) (number ∙ (let none = no_calls s system tie in omega (arith, none, place.0))))

  the_edge : {a m : MethodId} {k j : NodeNumber} {l : Label} → Direct a k m j l → IsThere a k → IsThere m j → IsGiving a k m j l
  the_edge (producer {m} {pc} {u} {d} takes of into flows) from to = absurd (no_operand (at m pc) u d takes)
  the_edge (base {m} {pc} {u} {d} takes of into flows) from to = absurd (no_operand (at m pc) u d takes)
  the_edge (returns {m} {pc} o) from to = absurd (never (at m pc) IsValueReturn (λ k. omega (arith, k.0, k.1)) o)
  the_edge (throws {m} {pc} o leaves) from to = absurd (never (at m pc) IsThrow (λ k. omega (arith, k)) o)
  the_edge (passes_on {m} {pc} o leaves) from to = absurd (never (at m pc) IsCall (λ k. omega (arith, k.0, k.1)) o)
  the_edge (to_result {c} {k} o is holds) from to = absurd (no_call_of s system tie _ c k is)
  the_edge (to_call {c} {k} o is holds rule written) from to = absurd (no_call_of s system tie _ c k is)
  the_edge (again {r} {k} {n} is) from to = absurd (not_there r (HeapResult k n) tt from)
  the_edge (argument {m} {pc} {i} number) from to =
      let call = root_call number in
      let first = first_argument m pc i from in
      (call.0, ap (λ x. Argument x i) call.1 ∙ ap (λ x. Argument 0 x) first, call.2, ap (λ x. Formal x) first, ap (λ x. Call x) call.3)
  the_edge (location {m} {pc} {n} number) from to = absurd (not_there m (HeapArg pc n) tt from)
  the_edge (answer {t} number) from to = absurd (not_there t Return tt from)
  the_edge (exception {t} number) from to = absurd (not_there t Thrown tt from)
  the_edge (location_back {t} {n} number) from to = absurd (not_there t (HeapOut n) tt from)

  it_is : Direct root (Argument 0 0) tiny_method (Formal 0) (Call (record { 0 = 0 }))
  it_is = argument (entry_call {r = root} {n = 0} {t = tiny_method} (root_is s system tie) refl (let none = no_calls s system tie in omega (arith, none)))

  same_node : (n : NodeId) (j : ℕ) → n.0 ≡ j → n ≡ record { 0 = j }
  same_node n j e = ap (λ k. record { 0 = k }) e

  same_edge : (e : Edge) → e.from.0 ≡ 2 → e.to.0 ≡ 0 → e.label ≡ Call (record { 0 = 0 }) → giving ≡ e
  same_edge e from to label = by_parts e.from e.to e.label (same_node e.from 2 from) (same_node e.to 0 to) label
    where
      by_parts : (a b : NodeId) (l : Label) → a ≡ record { 0 = 2 } → b ≡ record { 0 = 0 } → l ≡ Call (record { 0 = 0 }) → giving ≡ record { from = a; to = b; label = l }
      by_parts a b l p q r = rw (p, q, r) refl

  from_root : (n : NodeId) (m : MethodId) (k : NodeNumber) → IsNumberedThere n m k → m ≡ root → n.0 ≡ 2
  from_root n m k (inl w) e = absurd (apart (sym w.0 ∙ e))
  from_root n m k (inr w) e = w.1

  to_formal : (n : NodeId) (k : NodeNumber) → IsOfMain n k → k ≡ Formal 0 → n.0 ≡ 0
  to_formal n k (inl w) e = w.0
  to_formal n k (inr w) e = absurd (cc (sym w.1 ∙ e))

  abbrev Edges : MethodId → MethodInput → Edge → Type 0
  Edges m i e = (a : MethodId) × (k : NodeNumber) × (j : NodeNumber) × IsNode inputs e.from a k × IsNodeOf i e.to j × IsDirect tiny_program s entries a k m j e.label

  edge_there : (e : Edge) → Contains (giving ∷ []) e → Edges tiny_method main_input e
  edge_there e c = subst (Edges tiny_method main_input) (single giving e c) (root, Argument 0 0, Formal 0, (root_input, refl, (omega arith, refl)), (omega arith, refl), it_is)

  edge_back : (e : Edge) → Edges tiny_method main_input e → Contains (giving ∷ []) e
  edge_back e (a, k, j, from, to, direct) =
      let into = of_main e.to j to in
      let is = the_edge direct (there_at e.from a k from) (inl (refl, elim into [ inl w ↦ inl w.1 | inr w ↦ inr w.1 ])) in
      (0, omega arith, same_edge e (from_root e.from a k (node_at e.from a k from) is.0) (to_formal e.to j into is.3) is.4)

  no_edge : (e : Edge) → Edges root root_input e → ⊥
  no_edge e (a, k, j, from, to, direct) =
      let into = of_root e.to j to in
      let is = the_edge direct (there_at e.from a k from) (inr (refl, into.1)) in
      apart (sym is.2)

  no_definition : {m : MethodId} {pc : ℕ} {n : LocId} {k : NodeNumber} → DefinesNumber tiny_program s least_effects entries m pc n k → ⊥
  no_definition {n} (effect.by_touch {x} spot is c of) = no_place n.0 x is
  no_definition {n} (effect.by_call c {b} {f} is call rule writes) = no_place n.0 (Cell b f) is
  no_definition {n} (effect.by_result o {h} {f} is call holds fresh site place array field) = no_place n.0 (Cell h f) is
  no_definition {m} {pc} {n} (effect.by_callee is) = not_there m (HeapResult pc n) tt (there s system tie is)

  no_use : {m : MethodId} {pc : ℕ} {n : LocId} {k : NodeNumber} → UsesNumber tiny_program s least_effects entries m pc n k → ⊥
  no_use {n} (effect.by_touch {x} spot is c of) = no_place n.0 x is
  no_use {n} (effect.by_call c {b} {f} is call rule may state) = no_place n.0 (Cell b f) is
  no_use {n} (effect.by_result c {b} {f} is call rule reads) = no_place n.0 (Cell b f) is
  no_use {m} {pc} {n} (effect.by_callee is) = not_there m (HeapArg pc n) tt (there s system tie is)

  abbrev IsFor : MethodId → MethodInput → Type 0
  IsFor = IsInputFor tiny_program s least_effects entries inputs

  main_for : IsFor tiny_method main_input
  main_for = record {
    nodes = main_nodes s system tie;
    points = λ q. (
      λ lt. let first : q ≡ 0 = omega (arith, lt) in (0, subst (λ j. IsPointAt tiny_program tiny_method j 0) (sym first) (tiny_body, tiny_point, ((0, omega arith, refl), refl), refl, refl)),
      λ h. let first = (the_point q h.0 tiny_method h.1).0 in omega (arith, first),
    );
    direct = λ e. (edge_there e, edge_back e);
    flow = λ q r. (λ c. no_item _ c, λ h. absurd (no_flow tiny_method q r h));
    puts = λ q x n. (λ c. no_item _ c, λ h. absurd (no_definition h.4));
    gets = λ q x n. (λ c. no_item _ c, λ h. absurd (no_use h.4));
    direct_order = pairs_one EdgeBefore giving;
    flow_order = pairs_none StepBefore;
    puts_order = pairs_none UseBefore;
    gets_order = pairs_none UseBefore;
  }

  root_for : IsFor root root_input
  root_for = record {
    nodes = root_nodes s system tie;
    points = λ q. (λ lt. absurd (omega (arith, lt)), λ h. absurd (apart (sym (the_point q h.0 root h.1).1)));
    direct = λ e. (λ c. no_item e c, λ h. absurd (no_edge e h));
    flow = λ q r. (λ c. no_item _ c, λ h. absurd (no_flow root q r h));
    puts = λ q x n. (λ c. no_item _ c, λ h. absurd (no_definition h.4));
    gets = λ q x n. (λ c. no_item _ c, λ h. absurd (no_use h.4));
    direct_order = pairs_none EdgeBefore;
    flow_order = pairs_none StepBefore;
    puts_order = pairs_none UseBefore;
    gets_order = pairs_none UseBefore;
  }

  pub least_inputs : AreInputs tiny_program s least_effects entries inputs
  least_inputs = record {
    methods = ap suc (sym (one_method s system tie));
    follow_on = follow;
    whole = λ m. (
      λ h. elim (the_input m h.0 h.1) [
        | inl w ↦ inl (subst (λ x. SystemHolds s (Reached x)) (sym w.0) (main_reached s system tie))
        | inr w ↦ inr (ap (λ (x : MethodId). x.0) w.0 ∙ sym (one_method s system tie))
      ],
      λ h. elim h [
        | inl r ↦ (main_input, subst (λ x. IsInputOf inputs x main_input) (sym (only_main s system tie m r)) refl)
        | inr r ↦ (root_input, subst (λ x. IsInputOf inputs x root_input) (sym (is_root s system tie m r)) refl)
      ],
    );
    each = λ m i is. elim (the_input m i is) [
      | inl w ↦ subst (λ x. IsFor x i) (sym w.0) (subst (λ x. IsFor tiny_method x) (sym w.1) main_for)
      | inr w ↦ subst (λ x. IsFor x i) (sym w.0) (subst (λ x. IsFor root x) (sym w.1) root_for)
    ];
  }

  -- the rows of its nodes
  pub least_rows : AreNodeRows tiny_program s least_effects entries (main_list ∷ (Argument 0 0 ∷ []) ∷ [])
  least_rows = record { count = ap suc (sym (one_method s system tie)); each = λ m ks e. at_row m ks m.0 refl e }
    where
      at_row : (m : MethodId) (ks : List NodeNumber) (j : ℕ) → m.0 ≡ j → slice_get (main_list ∷ (Argument 0 0 ∷ []) ∷ []) j ≡ Some ks → IsOrderedListOf ComesBefore ks (IsNumbered tiny_program s least_effects entries m)
      at_row m ks zero number e =
          let row : main_list ≡ ks = same_Some main_list ks e in
          subst (λ xs. IsOrderedListOf ComesBefore xs (IsNumbered tiny_program s least_effects entries m)) row
          (subst (λ x. IsOrderedListOf ComesBefore main_list (IsNumbered tiny_program s least_effects entries x)) (sym (same_method m number)) (main_nodes s system tie))
      at_row m ks (suc zero) number e =
          let row : Argument 0 0 ∷ [] ≡ ks = same_Some (Argument 0 0 ∷ []) ks e in
          subst (λ xs. IsOrderedListOf ComesBefore xs (IsNumbered tiny_program s least_effects entries m)) row
          (subst (λ x. IsOrderedListOf ComesBefore (Argument 0 0 ∷ []) (IsNumbered tiny_program s least_effects entries x)) (sym (same_root m number)) (root_nodes s system tie))
      at_row m ks (suc (suc j)) number e = absurd cc

-- The edges of a program, and those that its inputs describe.
use Rattle.std.proofs.Common.{◌≡◌, ◌+◌, ℕ, Bool, true, false, List, length, Option, Some, inl, inr, refl, sym, ap, subst, ◌∙◌}
use Rattle.std.specs.Prelude.{slice_get}
use Rattle.std.proofs.lemmas.Option.{same_Some}
use Rattle.std.proofs.lemmas.List.Elements.{All-contains}
use Rattle.slicer_ids.specs.declared.ids.MethodId.{MethodId}
use Rattle.slicer_ids.specs.declared.ids.NodeId.{NodeId}
use Rattle.slicer_ids.specs.declared.ids.SiteId.{SiteId}
use Rattle.slicer_ids.specs.declared.ids.CallId.{CallId}
use Rattle.slicer_ids.specs.declared.ids.LocId.{LocId}
use Rattle.slicer_ids.specs.declared.ids.Statement.{Statement}
use Rattle.class_form.specs.Opcodes.{IsCall}
use Rattle.class_form.specs.declared.body.Def.{Def}
use Rattle.class_form.specs.declared.body.SlotUse.{SlotUse}
use Rattle.class_form.proofs.Indices.{there_at}
use Rattle.dep_form.specs.declared.node.Node.{Node as NodeNumber}
use Rattle.dep_form.specs.declared.node.Node.TheVariants as kind
use Rattle.dep_form.specs.declared.node.Edge.{Edge}
use Rattle.dep_form.specs.declared.node.Label.{Label}
use Rattle.dep_form.specs.declared.node.Label.TheVariants.{Thin, Base as BaseLabel, Call, Return as ReturnLabel}
use Rattle.dep_form.specs.declared.call_site.CallSite.{CallSite}
use Rattle.dep_form.specs.declared.system.System.{System}
use Rattle.dep_form.specs.declared.effects.ModRef.{ModRef}
use Rattle.dep_form.specs.declared.facts.Facts.{Facts}
use Rattle.dep_form.specs.PointsTo.{OutsideAt}
use Rattle.dep_form.specs.Constraints.{SystemFact, SystemHolds}
use Rattle.dep_form.specs.Inputs.{IsInputOf, IsEdge, IsEdgeOf}
use Rattle.dep_form.specs.Inputs as input
use Rattle.dep_form.proofs.OneMethod.{one_node}
use Rattle.dep_form.specs.Slices.{FullEdges, plain}
use Rattle.program_form.specs.Programs.{Program}
use Rattle.program_form.specs.Statements.{HasOpcode}
use Rattle.program_form.specs.Sites.{Site}
use Rattle.program_form.specs.Effects.{IsReached, GoesOutside}
use Rattle.program_form.specs.Nodes.{Kind, Formal, Own, Argument, Result, Exception, HeapArg, HeapResult, Return, Thrown, HeapIn, HeapOut, Node, node, at, IsNode, IsDefinition}
use Rattle.program_form.specs.Nodes as made
use Rattle.program_form.specs.Dependences.{Caller, Dependence, Flow, Base, Into, BackTo, OperandFlow, IsTaker, ExitFlow, OutsideFlow, RootFlow, GoesInto, CallFlow, ReturnFlow, DependsOn, FullyDependsOn, HeapFlow}
use Rattle.program_form.specs.Dependences as program
use Rattle.program_form.specs.Graphs.{Numbering, KindNumber, LabelNumber, NumberOf}
use Rattle.program_form.specs.Graphs as numbered
use Rattle.program_form.specs.Systems.{Counterpart, CallNumber, IsCallOf}
use Rattle.program_form.specs.Systems as tied
use Rattle.constraint_form.proofs.Instructions.{no_root}
use Rattle.program_code.proofs.Outside.{calls_there, goes_there as outside_there, goes_back as outside_back, answering}
use Rattle.fact_form.specs.NodeNumbers.{IsNumbered}
use Rattle.fact_form.specs.EdgeNumbers.{IsDefinitionNumber, IsTakerNumber, IsDirect}
use Rattle.fact_form.specs.EdgeNumbers as direct
use Rattle.fact_form.specs.FactTables.{AreInputs}
use Rattle.fact_form.proofs.Setting.{Setting, IsNumberingOf, one_loc}
use Rattle.fact_form.proofs.CallNumbers.{root_there, root_back, statement_caller, root_caller, entry_there, goes_there, goes_back}
use Rattle.fact_form.proofs.NodesAgree.{node_back, one_kind}
use Rattle.fact_form.proofs.HeapFlows.{heap_there, heap_back}

outside_number : (p : Program) (s : System) (t : Statement) (o : Option Site) (f : SystemFact) → Counterpart p s (OutsideAt t o) f → (c : CallId) × CallNumber s t c
outside_number p s t o f (tied.static_outside number) = (_, number)
outside_number p s t o f (tied.outside number site) = (_, number)

module _ (p : Program) (s : System) (mr : ModRef) (entries : List MethodId) (g : Setting p s mr entries) (ns : Numbering) (numbers : IsNumberingOf p s mr entries ns) where
  abbrev Direct : Node → NodeNumber → Node → NodeNumber → Label → Type 0
  Direct a ka b kb l = IsDirect p s entries a.method ka b.method kb l

  -- FROM THE PROGRAM

  pub definition_there : (m : MethodId) (d : Def) (a : Node) → IsDefinition p m d a → (k : NodeNumber) → KindNumber ns a.kind k → (a.method ≡ m) × IsDefinitionNumber p m d k
  definition_there m d a made.of_formal k numbered.formal = (refl, direct.of_formal)
  definition_there m d a (made.of_value st) k numbered.own = (refl, direct.of_value st.1)
  definition_there m d a (made.of_call st) k numbered.result = (refl, direct.of_call st.1)
  definition_there m d a (made.of_throw st covered e) k numbered.own = (refl, direct.of_throw st.1 covered e)
  definition_there m d a (made.of_exception st covered e) k numbered.exception = (refl, direct.of_exception st.1 covered e)

  taker_there : (m : MethodId) (pc operand : ℕ) (b : Node) → IsTaker p m pc operand b → (k : NodeNumber) → KindNumber ns b.kind k → (b.method ≡ m) × IsTakerNumber p m pc operand k
  taker_there m pc operand b (program.at_own st) k numbered.own = (refl, direct.at_own st.1)
  taker_there m pc operand b (program.at_argument st) k numbered.argument = (refl, direct.at_argument st.1)

  operand_there : (u : SlotUse) (a b : Node) → OperandFlow p u a b → (ka kb : NodeNumber) → KindNumber ns a.kind ka → KindNumber ns b.kind kb
      → ((u.base ≡ false) → Direct a ka b kb Thin) × ((u.base ≡ true) → Direct a ka b kb BaseLabel)
  operand_there u a b (t, d, takes, definition, taker) ka kb na nb =
      let x = definition_there t.method d a definition ka na in
      let y = taker_there t.method t.pc u.operand b taker kb nb in
      let methods : (l : Label) → IsDirect p s entries t.method ka t.method kb l → Direct a ka b kb l =
      λ l h. subst (λ (z : MethodId). IsDirect p s entries z ka b.method kb l) (sym x.0) (subst (λ (z : MethodId). IsDirect p s entries t.method ka z kb l) (sym y.0) h) in
      ((λ e. methods Thin (direct.producer takes x.1 y.1 e)), (λ e. methods BaseLabel (direct.base takes x.1 y.1 e)))

  exit_there : (a b : Node) → ExitFlow p a b → (ka kb : NodeNumber) → KindNumber ns a.kind ka → KindNumber ns b.kind kb → Direct a ka b kb Thin
  exit_there a b (program.returns st) ka kb numbered.own numbered.returned = direct.returns st.1
  exit_there a b (program.throws st leaves) ka kb numbered.own numbered.thrown = direct.throws st.1 leaves
  exit_there a b (program.passes_on st leaves) ka kb numbered.exception numbered.thrown = direct.passes_on st.1 leaves

  outside_call : (t : Statement) → GoesOutside p t → (c : CallId) × (k : CallSite) × (o : Option SiteId) × IsCallOf s t c k × SystemHolds s (OutsideAt c o)
  outside_call t (o, h) =
      let f = g.tie.numbered (OutsideAt t o) h in
      let c = outside_number p s t o f.0 f.1 in
      let is : IsCallOf s t c.0 c.1.0 = (c.1.1, c.1.2) in
      let q = outside_there p s g.coded g.tie t c.0 c.1.0 is o h in
      (c.0, c.1.0, q.0, is, q.1)

  outside_flow_there : (a b : Node) → OutsideFlow p a b → (ka kb : NodeNumber) → KindNumber ns a.kind ka → KindNumber ns b.kind kb → Direct a ka b kb Thin
  outside_flow_there a b (program.to_result {m} {pc} {i} out) ka kb numbered.argument numbered.result =
      let c = outside_call (at m pc) out in
      direct.to_result c.2 c.3 c.4
  outside_flow_there a b (program.to_call {m} {pc} {i} {instance} {r} out rule c) ka kb numbered.argument numbered.own =
      let answer = answering p s g.coded g.tie (at m pc) instance r rule.1.0 rule in
      let o = outside_there p s g.coded g.tie (at m pc) answer.call answer.site answer.is out.0 out.1 in
      direct.to_call o.0 answer.is o.1 answer.rule c

  root_flow_there : (a b : Node) → RootFlow p a b → (ka kb : NodeNumber) → KindNumber ns a.kind ka → KindNumber ns b.kind kb → Direct a ka b kb Thin
  root_flow_there a b (program.again {r} {k} {j} {l} is) ka kb (numbered.heap_result {n} e) (numbered.heap_arg {n = q} f) =
      subst (λ (z : LocId). IsDirect p s entries r (kind.HeapResult k n) r (kind.HeapArg j z) Thin) (one_loc p s mr entries g ns numbers n q l e f)
      (direct.again (root_there p s mr entries g r is))

  call_there : (c : Caller) (n : CallId) → slice_get ns.calls n.0 ≡ Some c → (a b : Node) → CallFlow p c a b → (ka kb : NodeNumber) → KindNumber ns a.kind ka → KindNumber ns b.kind kb → Direct a ka b kb (Call n)
  call_there c n e a b (program.argument {m} {pc} {i} {t} goes) ka kb numbered.argument numbered.formal = direct.argument (goes_there p s mr entries g ns numbers c n m pc t e goes)
  call_there c n e a b (program.location {m} {pc} {l} {t} goes) ka kb (numbered.heap_arg {n = x} d) (numbered.heap_in {n = y} f) =
      subst (λ (z : LocId). IsDirect p s entries m (kind.HeapArg pc x) t (kind.HeapIn z) (Call n)) (one_loc p s mr entries g ns numbers x y l d f)
      (direct.location (goes_there p s mr entries g ns numbers c n m pc t e goes))

  return_there : (c : Caller) (n : CallId) → slice_get ns.calls n.0 ≡ Some c → (a b : Node) → ReturnFlow p c a b → (ka kb : NodeNumber) → KindNumber ns a.kind ka → KindNumber ns b.kind kb → Direct a ka b kb (ReturnLabel n)
  return_there c n e a b (program.answer {m} {pc} {t} goes) ka kb numbered.returned numbered.result = direct.answer (goes_there p s mr entries g ns numbers c n m pc t e goes)
  return_there c n e a b (program.exception {m} {pc} {t} goes) ka kb numbered.thrown numbered.exception = direct.exception (goes_there p s mr entries g ns numbers c n m pc t e goes)
  return_there c n e a b (program.location {m} {pc} {l} {t} goes) ka kb (numbered.heap_out {n = x} d) (numbered.heap_result {n = y} f) =
      subst (λ (z : LocId). IsDirect p s entries t (kind.HeapOut x) m (kind.HeapResult pc z) (ReturnLabel n)) (one_loc p s mr entries g ns numbers x y l d f)
      (direct.location_back (goes_there p s mr entries g ns numbers c n m pc t e goes))

  -- FROM THE NUMBERS

  own_reached : (m : MethodId) (pc : ℕ) → IsNode p (node m (Own pc)) → IsReached p m
  own_reached m pc (made.own st) = st.0

  exception_reached : (m : MethodId) (pc : ℕ) → IsNode p (node m (Exception pc)) → IsReached p m
  exception_reached m pc (made.exception st holds) = st.0

  result_reached : (m : MethodId) (pc : ℕ) → IsNode p (node m (Result pc)) → IsReached p m
  result_reached m pc (made.result t st type e) = st.0

  argument_reached : (m : MethodId) (pc i : ℕ) → HasOpcode p (at m pc) IsCall → IsNode p (node m (Argument pc i)) → IsReached p m
  argument_reached m pc i op (made.argument st has) = st.0
  argument_reached m pc i op (made.root_argument root entry gives) = absurd (no_root p g.asked (at m pc) IsCall op root)

  pub definition_back : (m : MethodId) (d : Def) (k : NodeNumber) → IsDefinitionNumber p m d k → (a : Kind) → KindNumber ns a k → IsReached p m → IsDefinition p m d (node m a)
  definition_back m d k direct.of_formal a numbered.formal reached = made.of_formal
  definition_back m d k (direct.of_value op) a numbered.own reached = made.of_value (reached, op)
  definition_back m d k (direct.of_call op) a numbered.result reached = made.of_call (reached, op)
  definition_back m d k (direct.of_throw op covered e) a numbered.own reached = made.of_throw (reached, op) covered e
  definition_back m d k (direct.of_exception op covered e) a numbered.exception reached = made.of_exception (reached, op) covered e

  taker_back : (m : MethodId) (pc operand : ℕ) (k : NodeNumber) → IsTakerNumber p m pc operand k → (a : Kind) → KindNumber ns a k → IsNode p (node m a) → IsReached p m × IsTaker p m pc operand (node m a)
  taker_back m pc operand k (direct.at_own op) a numbered.own is = let r = own_reached m pc is in (r, program.at_own (r, op))
  taker_back m pc operand k (direct.at_argument op) a numbered.argument is = let r = argument_reached m pc operand op is in (r, program.at_argument (r, op))

  -- a dependence with a label's number
  abbrev Back : Node → Node → Label → Type 0
  Back a b l = (d : Dependence) → LabelNumber ns d l → DependsOn p a b d

  flow_back : (a b : Node) → DependsOn p a b Flow → (d : Dependence) → LabelNumber ns d Thin → DependsOn p a b d
  flow_back a b h d numbered.flow = h

  base_back : (a b : Node) → DependsOn p a b Base → (d : Dependence) → LabelNumber ns d BaseLabel → DependsOn p a b d
  base_back a b h d numbered.base = h

  into_back : (n : CallId) (m : MethodId) (pc : ℕ) (t : MethodId) (a b : Node) → IsNode p a → IsNode p b → direct.IsCallNumber s entries n m pc t → ((c : Caller) → GoesInto p c m pc t → CallFlow p c a b) → (d : Dependence) → LabelNumber ns d (Call n) → DependsOn p a b d
  into_back n m pc t a b ia ib number f d (numbered.into {c} e) =
      let w = goes_back p s mr entries g ns numbers n m pc t number in
      program.into ia ib (f c (subst (λ (z : Caller). GoesInto p z m pc t) (same_Some w.0 c (sym w.1 ∙ e)) w.2))

  from_back : (n : CallId) (m : MethodId) (pc : ℕ) (t : MethodId) (a b : Node) → IsNode p a → IsNode p b → direct.IsCallNumber s entries n m pc t → ((c : Caller) → GoesInto p c m pc t → ReturnFlow p c a b) → (d : Dependence) → LabelNumber ns d (ReturnLabel n) → DependsOn p a b d
  from_back n m pc t a b ia ib number f d (numbered.back {c} e) =
      let w = goes_back p s mr entries g ns numbers n m pc t number in
      program.back ia ib (f c (subst (λ (z : Caller). GoesInto p z m pc t) (same_Some w.0 c (sym w.1 ∙ e)) w.2))

  operand_back : (m : MethodId) (pc : ℕ) (u : SlotUse) (d : Def) (k j : NodeNumber) (a b : Kind) → KindNumber ns a k → KindNumber ns b j → IsNode p (node m b) → program.Takes p (at m pc) u d → IsDefinitionNumber p m d k
      → IsTakerNumber p m pc u.operand j → OperandFlow p u (node m a) (node m b)
  operand_back m pc u d k j a b ka kb ib takes definition taker =
      let w = taker_back m pc u.operand j taker b kb ib in
      (at m pc, d, takes, definition_back m d k definition a ka w.0, w.1)

  pub direct_back : (m t : MethodId) (k j : NodeNumber) (l : Label) → IsDirect p s entries m k t j l → (a b : Kind) → KindNumber ns a k → KindNumber ns b j → IsNode p (node m a) → IsNode p (node t b) → Back (node m a) (node t b) l
  direct_back m t k j l (direct.producer {pc} {u} {d} takes definition taker e) a b ka kb ia ib =
      flow_back (node m a) (node m b) (program.producer ia ib (operand_back m pc u d k j a b ka kb ib takes definition taker) e)
  direct_back m t k j l (direct.base {pc} {u} {d} takes definition taker e) a b ka kb ia ib =
      base_back (node m a) (node m b) (program.base ia ib (operand_back m pc u d k j a b ka kb ib takes definition taker) e)
  direct_back m t k j l (direct.returns {pc} op) a b numbered.own numbered.returned ia ib =
      flow_back (node m (Own pc)) (node m Return) (program.other ia ib (inr (inl (program.returns (own_reached m pc ia, op)))))
  direct_back m t k j l (direct.throws {pc} op leaves) a b numbered.own numbered.thrown ia ib =
      flow_back (node m (Own pc)) (node m Thrown) (program.other ia ib (inr (inl (program.throws (own_reached m pc ia, op) leaves))))
  direct_back m t k j l (direct.passes_on {pc} op leaves) a b numbered.exception numbered.thrown ia ib =
      flow_back (node m (Exception pc)) (node m Thrown) (program.other ia ib (inr (inl (program.passes_on (exception_reached m pc ia, op) leaves))))
  direct_back m t k j l (direct.to_result {pc} {i} {c} {k = site} o is out) a b numbered.argument numbered.result ia ib =
      let back = outside_back p s g.coded g.tie (at m pc) c site is o out in
      flow_back (node m (Argument pc i)) (node m (Result pc)) (program.other ia ib (inr (inr (inl (program.to_result back)))))
  direct_back m t k j l (direct.to_call {pc} {i} {c} {k = site} {r} o is out rule among) a b numbered.argument numbered.own ia ib =
      let back = outside_back p s g.coded g.tie (at m pc) c site is o out in
      flow_back (node m (Argument pc i)) (node m (Own pc)) (program.other ia ib (inr (inr (inl (program.to_call back (g.tie.rules (at m pc) c site r is rule) among)))))
  direct_back m t k j l (direct.again {k = x} {j = y} {n} is) a b (numbered.heap_result {l = v} e) (numbered.heap_arg {l = w} f) ia ib =
      let flow : RootFlow p (node m (HeapResult x v)) (node m (HeapArg y w)) =
      subst (λ z. RootFlow p (node m (HeapResult x v)) (node m (HeapArg y z))) (same_Some v w (sym e ∙ f)) (program.again (root_back p s mr entries g m is)) in
      flow_back (node m (HeapResult x v)) (node m (HeapArg y w)) (program.other ia ib (inr (inr (inr flow))))
  direct_back m t k j l (direct.argument {c = n} {pc} {i} number) a b numbered.argument numbered.formal ia ib =
      into_back n m pc t (node m (Argument pc i)) (node t (Formal i)) ia ib number (λ c goes. program.argument goes)
  direct_back m t k j l (direct.location {c = n} {pc} {n = x} number) a b (numbered.heap_arg {l = v} e) (numbered.heap_in {l = w} f) ia ib =
      into_back n m pc t (node m (HeapArg pc v)) (node t (HeapIn w)) ia ib number
      (λ c goes. subst (λ z. CallFlow p c (node m (HeapArg pc v)) (node t (HeapIn z))) (same_Some v w (sym e ∙ f)) (program.location goes))
  direct_back m t k j l (direct.answer {c = n} {m = q} {pc} number) a b numbered.returned numbered.result ia ib =
      from_back n t pc m (node m Return) (node t (Result pc)) ia ib number (λ c goes. program.answer goes)
  direct_back m t k j l (direct.exception {c = n} {m = q} {pc} number) a b numbered.thrown numbered.exception ia ib =
      from_back n t pc m (node m Thrown) (node t (Exception pc)) ia ib number (λ c goes. program.exception goes)
  direct_back m t k j l (direct.location_back {c = n} {m = q} {pc} {n = x} number) a b (numbered.heap_out {l = v} e) (numbered.heap_result {l = w} f) ia ib =
      from_back n t pc m (node m (HeapOut v)) (node t (HeapResult pc w)) ia ib number
      (λ c goes. subst (λ z. ReturnFlow p c (node m (HeapOut v)) (node t (HeapResult pc z))) (same_Some v w (sym e ∙ f)) (program.location goes))

  -- LABELS

  caller_number : (c : Caller) (m : MethodId) (pc : ℕ) (t : MethodId) → GoesInto p c m pc t → (n : CallId) × (slice_get ns.calls n.0 ≡ Some c)
  caller_number c m pc t (program.statement h) =
      let k = calls_there p s g.coded g.tie (at m pc) t h in
      (k.0, statement_caller p s mr entries g ns numbers k.0 (at m pc) k.1)
  caller_number c m pc t (program.entry_call is entry) =
      let n : CallId = record { 0 = length s.calls + pc } in
      (n, root_caller p s mr entries g ns numbers n pc t refl (entry_there p s mr entries g pc t entry))

  call_label : (c : Caller) (a b : Node) → CallFlow p c a b → (n : CallId) × (slice_get ns.calls n.0 ≡ Some c)
  call_label c a b (program.argument {m} {pc} {t} goes) = caller_number c m pc t goes
  call_label c a b (program.location {m} {pc} {t} goes) = caller_number c m pc t goes

  return_label : (c : Caller) (a b : Node) → ReturnFlow p c a b → (n : CallId) × (slice_get ns.calls n.0 ≡ Some c)
  return_label c a b (program.answer {m} {pc} {t} goes) = caller_number c m pc t goes
  return_label c a b (program.exception {m} {pc} {t} goes) = caller_number c m pc t goes
  return_label c a b (program.location {m} {pc} {t} goes) = caller_number c m pc t goes

  pub labelled : (a b : Node) (d : Dependence) → DependsOn p a b d → (l : Label) × LabelNumber ns d l
  labelled a b d (program.producer ia ib flow e) = (Thin, numbered.flow)
  labelled a b d (program.base ia ib flow e) = (BaseLabel, numbered.base)
  labelled a b d (program.other ia ib flow) = (Thin, numbered.flow)
  labelled a b d (program.into {c} ia ib flow) = let n = call_label c a b flow in (Call n.0, numbered.into n.1)
  labelled a b d (program.back {c} ia ib flow) = let n = return_label c a b flow in (ReturnLabel n.0, numbered.back n.1)

  direct_label : (m t : MethodId) (k j : NodeNumber) (l : Label) → IsDirect p s entries m k t j l → (d : Dependence) × LabelNumber ns d l
  direct_label m t k j l (direct.producer takes definition taker e) = (Flow, numbered.flow)
  direct_label m t k j l (direct.base takes definition taker e) = (Base, numbered.base)
  direct_label m t k j l (direct.returns op) = (Flow, numbered.flow)
  direct_label m t k j l (direct.throws op leaves) = (Flow, numbered.flow)
  direct_label m t k j l (direct.passes_on op leaves) = (Flow, numbered.flow)
  direct_label m t k j l (direct.to_result o is out) = (Flow, numbered.flow)
  direct_label m t k j l (direct.to_call o is out rule among) = (Flow, numbered.flow)
  direct_label m t k j l (direct.again is) = (Flow, numbered.flow)
  direct_label m t k j l (direct.argument {c = n} {m = q} {t = r} {pc} number) = let w = goes_back p s mr entries g ns numbers n q pc r number in (Into w.0, numbered.into w.1)
  direct_label m t k j l (direct.location {c = n} {m = q} {t = r} {pc} number) = let w = goes_back p s mr entries g ns numbers n q pc r number in (Into w.0, numbered.into w.1)
  direct_label m t k j l (direct.answer {c = n} {m = q} {t = r} {pc} number) = let w = goes_back p s mr entries g ns numbers n q pc r number in (BackTo w.0, numbered.back w.1)
  direct_label m t k j l (direct.exception {c = n} {m = q} {t = r} {pc} number) = let w = goes_back p s mr entries g ns numbers n q pc r number in (BackTo w.0, numbered.back w.1)
  direct_label m t k j l (direct.location_back {c = n} {m = q} {t = r} {pc} number) = let w = goes_back p s mr entries g ns numbers n q pc r number in (BackTo w.0, numbered.back w.1)

  -- EDGES

  module _ (f : Facts) (inputs : AreInputs p s mr entries f.inputs) where
    -- what has a number is a node
    pub is_node : (a : Node) (x : NodeId) → NumberOf ns f a x → IsNode p a
    is_node a x h =
        let k : IsNumbered p s mr entries a.method h.0 = All-contains (IsNumbered p s mr entries a.method) h.1.0.nodes h.0 (inputs.each a.method h.1.0 h.1.1).nodes.each (there_at h.1.0.nodes _ h.0 h.1.2.1) in
        let b = node_back p s mr entries g ns numbers a.method h.0 k in
        subst (λ z. IsNode p (node a.method z)) (one_kind p s mr entries g ns numbers b.0 a.kind h.0 b.1 h.2) b.2

    listed : (a b : Node) (x y : NodeId) (l : Label) → (ha : NumberOf ns f a x) → (h : NumberOf ns f b y) → Direct a ha.0 b h.0 l → IsEdge f.inputs (record { from = x; to = y; label = l })
    listed a b x y l ha h is =
        (b.method, h.1.0, h.1.1, inl (((inputs.each b.method h.1.0 h.1.1).direct (record { from = x; to = y; label = l })).1 (a.method, ha.0, h.0, ha.1, h.1.2, is)))

    pub edge_there : (a b : Node) (d : Dependence) (x y : NodeId) (l : Label) → NumberOf ns f a x → NumberOf ns f b y → LabelNumber ns d l → DependsOn p a b d → IsEdge f.inputs (record { from = x; to = y; label = l })
    edge_there a b d x y l ha h numbered.flow (program.producer {u} ia ib flow e) = listed a b x y Thin ha h ((operand_there u a b flow ha.0 h.0 ha.2 h.2).0 e)
    edge_there a b d x y l ha h numbered.base (program.base {u} ia ib flow e) = listed a b x y BaseLabel ha h ((operand_there u a b flow ha.0 h.0 ha.2 h.2).1 e)
    edge_there a b d x y l ha h numbered.flow (program.other ia ib (inl flow)) =
        (b.method, h.1.0, h.1.1, inr (heap_there p s mr entries g ns numbers f inputs a b flow ia ib x y ha h, refl))
    edge_there a b d x y l ha h numbered.flow (program.other ia ib (inr (inl flow))) = listed a b x y Thin ha h (exit_there a b flow ha.0 h.0 ha.2 h.2)
    edge_there a b d x y l ha h numbered.flow (program.other ia ib (inr (inr (inl flow)))) = listed a b x y Thin ha h (outside_flow_there a b flow ha.0 h.0 ha.2 h.2)
    edge_there a b d x y l ha h numbered.flow (program.other ia ib (inr (inr (inr flow)))) = listed a b x y Thin ha h (root_flow_there a b flow ha.0 h.0 ha.2 h.2)
    edge_there a b d x y l ha h (numbered.into {c} {n} e) (program.into ia ib flow) = listed a b x y (Call n) ha h (call_there c n e a b flow ha.0 h.0 ha.2 h.2)
    edge_there a b d x y l ha h (numbered.back {c} {n} e) (program.back ia ib flow) = listed a b x y (ReturnLabel n) ha h (return_there c n e a b flow ha.0 h.0 ha.2 h.2)

    pub edge_back : (a b : Node) (d : Dependence) (x y : NodeId) (l : Label) → NumberOf ns f a x → NumberOf ns f b y → LabelNumber ns d l → IsEdge f.inputs (record { from = x; to = y; label = l }) → DependsOn p a b d
    edge_back a b d x y l ha h number (m, i, is, inr (flow, thin)) =
        flow_back a b (program.other (is_node a x ha) (is_node b y h) (inl (heap_back p s mr entries g ns numbers f inputs m i is a b x y ha h flow))) d (subst (λ z. LabelNumber ns d z) thin number)
    edge_back a b d x y l ha h number (m, i, is, inl c) = by_direct (((inputs.each m i is).direct (record { from = x; to = y; label = l })).0 c)
      where
        by_direct : (q : MethodId) × (k : NodeNumber) × (j : NodeNumber) × input.IsNode f.inputs x q k × input.IsNodeOf i y j × IsDirect p s entries q k m j l → DependsOn p a b d
        by_direct (q, k, j, from, to, is_direct) =
            let one = one_node f x a.method q ha.0 k ha.1 from in
            let two = one_node f y b.method m h.0 j h.1 (i, is, to) in
            let mine : IsDirect p s entries a.method ha.0 b.method h.0 l =
            subst (λ (z : MethodId). IsDirect p s entries z ha.0 b.method h.0 l) (sym one.0)
            (subst (λ (z : NodeNumber). IsDirect p s entries q z b.method h.0 l) (sym one.1)
            (subst (λ (z : MethodId). IsDirect p s entries q k z h.0 l) (sym two.0) (subst (λ (z : NodeNumber). IsDirect p s entries q k m z l) (sym two.1) is_direct))) in
            direct_back a.method b.method ha.0 h.0 l mine a.kind b.kind ha.2 h.2 (is_node a x ha) (is_node b y h) d number

    pub labels : (e : Edge) → IsEdge f.inputs e → (d : Dependence) × LabelNumber ns d e.label
    labels e (m, i, is, inr (flow, thin)) = (Flow, subst (λ z. LabelNumber ns Flow z) (sym thin) numbered.flow)
    labels e (m, i, is, inl c) = let w = ((inputs.each m i is).direct e).0 c in direct_label w.0 m w.1 w.2 e.label w.5

    -- FULL EDGES

    full : (x y : NodeId) (l : Label) → IsEdge f.inputs (record { from = x; to = y; label = l }) → FullEdges f.inputs (record { from = x; to = y; label = plain l })
    full x y l is = (record { from = x; to = y; label = l }, is, refl)

    operand_full : (u : SlotUse) (b' : Bool) → u.base ≡ b' → (a b : Node) (x y : NodeId) → NumberOf ns f a x → NumberOf ns f b y → IsNode p a → IsNode p b → OperandFlow p u a b → FullEdges f.inputs (record { from = x; to = y; label = Thin })
    operand_full u true e a b x y ha h ia ib flow = full x y BaseLabel (edge_there a b Base x y BaseLabel ha h numbered.base (program.base ia ib flow e))
    operand_full u false e a b x y ha h ia ib flow = full x y Thin (edge_there a b Flow x y Thin ha h numbered.flow (program.producer ia ib flow e))

    pub full_there : (a b : Node) (d : Dependence) (x y : NodeId) (l : Label) → NumberOf ns f a x → NumberOf ns f b y → LabelNumber ns d l → FullyDependsOn p a b d → FullEdges f.inputs (record { from = x; to = y; label = l })
    full_there a b d x y l ha h numbered.base none = elim none [ ]
    full_there a b d x y l ha h numbered.flow (program.operand {u} ia ib flow) = operand_full u u.base refl a b x y ha h ia ib flow
    full_there a b d x y l ha h numbered.flow (program.other ia ib flow) = full x y Thin (edge_there a b Flow x y Thin ha h numbered.flow (program.other ia ib flow))
    full_there a b d x y l ha h (numbered.into {c} {n} e) (program.into ia ib flow) = full x y (Call n) (edge_there a b (Into c) x y (Call n) ha h (numbered.into e) (program.into ia ib flow))
    full_there a b d x y l ha h (numbered.back {c} {n} e) (program.back ia ib flow) = full x y (ReturnLabel n) (edge_there a b (BackTo c) x y (ReturnLabel n) ha h (numbered.back e) (program.back ia ib flow))

    flow_full : (a b : Node) → DependsOn p a b Flow → FullyDependsOn p a b Flow
    flow_full a b (program.producer ia ib flow e) = program.operand ia ib flow
    flow_full a b (program.other ia ib flow) = program.other ia ib flow

    base_full : (a b : Node) → DependsOn p a b Base → FullyDependsOn p a b Flow
    base_full a b (program.base ia ib flow e) = program.operand ia ib flow

    into_full : (a b : Node) (c : Caller) → DependsOn p a b (Into c) → FullyDependsOn p a b (Into c)
    into_full a b c (program.into ia ib flow) = program.into ia ib flow

    back_full : (a b : Node) (c : Caller) → DependsOn p a b (BackTo c) → FullyDependsOn p a b (BackTo c)
    back_full a b c (program.back ia ib flow) = program.back ia ib flow

    by_label : (a b : Node) (d : Dependence) (x y : NodeId) (l : Label) → NumberOf ns f a x → NumberOf ns f b y → IsEdge f.inputs (record { from = x; to = y; label = l }) → LabelNumber ns d (plain l) → FullyDependsOn p a b d
    by_label a b d x y Thin ha h is numbered.flow = flow_full a b (edge_back a b Flow x y Thin ha h numbered.flow is)
    by_label a b d x y BaseLabel ha h is numbered.flow = base_full a b (edge_back a b Base x y BaseLabel ha h numbered.base is)
    by_label a b d x y (Call n) ha h is (numbered.into {c} e) = into_full a b c (edge_back a b (Into c) x y (Call n) ha h (numbered.into e) is)
    by_label a b d x y (ReturnLabel n) ha h is (numbered.back {c} e) = back_full a b c (edge_back a b (BackTo c) x y (ReturnLabel n) ha h (numbered.back e) is)

    pub full_back : (a b : Node) (d : Dependence) (x y : NodeId) (l : Label) → NumberOf ns f a x → NumberOf ns f b y → LabelNumber ns d l → FullEdges f.inputs (record { from = x; to = y; label = l }) → FullyDependsOn p a b d
    full_back a b d x y l ha h number (e, is, same) =
        let from : x ≡ e.from = ap (λ (z : Edge). z.from) same in
        let to : y ≡ e.to = ap (λ (z : Edge). z.to) same in
        let label : l ≡ plain e.label = ap (λ (z : Edge). z.label) same in
        let mine : IsEdge f.inputs (record { from = x; to = y; label = e.label }) =
        subst (λ (z : NodeId). IsEdge f.inputs (record { from = z; to = y; label = e.label })) (sym from)
        (subst (λ (z : NodeId). IsEdge f.inputs (record { from = e.from; to = z; label = e.label })) (sym to) is) in
        by_label a b d x y e.label ha h mine (subst (λ z. LabelNumber ns d z) label number)

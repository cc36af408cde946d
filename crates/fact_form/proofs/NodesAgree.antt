-- Nodes and their numbers.
use Rattle.std.proofs.Common.{◌≡◌, ◌⊎◌, ◌<◌, ℕ, List, [], ◌∷◌, length, Some, inl, inr, refl, sym, ap, subst, ◌∙◌, arith}
use Rattle.std.specs.Prelude.{slice_get}
use Rattle.std.proofs.lemmas.Option.{same_Some, slice_get_within}
use Rattle.std.proofs.lemmas.List.Elements.{All-contains}
use Rattle.slicer_ids.specs.Walks.{LeadsBy}
use Rattle.slicer_ids.specs.declared.ids.MethodId.{MethodId}
use Rattle.slicer_ids.specs.declared.ids.SiteId.{SiteId}
use Rattle.slicer_ids.specs.declared.ids.LocId.{LocId}
use Rattle.slicer_ids.specs.declared.ids.CallId.{CallId}
use Rattle.slicer_ids.specs.declared.ids.Statement.{Statement}
use Rattle.class_form.specs.Opcodes.{IsCall}
use Rattle.class_form.proofs.Indices.{index_at, there_at}
use Rattle.dep_form.specs.declared.node.Node.{Node as NodeNumber}
use Rattle.dep_form.specs.declared.node.Node.TheVariants as kind
use Rattle.dep_form.specs.declared.rules.Var.{Var}
use Rattle.dep_form.specs.declared.rules.MethodVars.{MethodVars}
use Rattle.dep_form.specs.declared.call_site.CallSite.{CallSite}
use Rattle.dep_form.specs.declared.system.System.{System}
use Rattle.dep_form.specs.declared.effects.Location.{Location as SystemLocation}
use Rattle.dep_form.specs.declared.effects.ModRef.{ModRef}
use Rattle.dep_form.specs.PointsTo.{Reached, Has}
use Rattle.dep_form.specs.Constraints.{SystemFact, SystemHolds, IsMethodVars}
use Rattle.dep_form.specs.Constraints as system_constraint
use Rattle.dep_form.specs.Effects as system
use Rattle.program_form.specs.Programs.{Program, HasFormal, references_of}
use Rattle.program_form.specs.Statements.{HasOpcode}
use Rattle.program_form.specs.Sites.{Site}
use Rattle.program_form.specs.Facts.{ArgumentOf, ExceptionOf, ThrownBy, Holds}
use Rattle.program_form.specs.Effects.{Location, IsReached, MayCall, Mod, Ref, DefinesAtAll, UsesAtAll}
use Rattle.program_form.specs.Nodes.{Kind, Formal, HeapIn, Own, Argument, Result, Exception, HeapArg, HeapResult, Return, Thrown, HeapOut, Node, node, at, HasArgument, IsNode}
use Rattle.program_form.specs.Nodes as program
use Rattle.program_form.specs.Graphs.{Numbering, KindNumber}
use Rattle.program_form.specs.Graphs as numbered
use Rattle.program_form.specs.Systems.{SiteNumber, VariableNumber, Counterpart, has, of_argument, of_exception, of_thrown, IsCallOf}
use Rattle.constraint_form.specs.Variables.{Named}
use Rattle.constraint_form.proofs.Instructions.{in_range, one_call_type, one_instance}
use Rattle.program_code.proofs.Outside.{reached_there, reached_back, calls_there, calls_back}
use Rattle.program_code.proofs.ModRef.{mod_there, mod_back, ref_there, ref_back}
use Rattle.fact_form.specs.NodeNumbers.{UsedBy, ChangedBy, IsNumbered}
use Rattle.fact_form.specs.NodeNumbers as number
use Rattle.fact_form.proofs.Setting.{Setting, IsNumberingOf, of_system, to_program, number_of, one_loc}
use Rattle.fact_form.proofs.Touching.{defining, using}
use Rattle.fact_form.proofs.CallNumbers.{calling, entry_there, entry_back, given_there, given_back, root_there, root_back}

module _ (p : Program) (s : System) (mr : ModRef) (entries : List MethodId) (g : Setting p s mr entries) (ns : Numbering) (numbers : IsNumberingOf p s mr entries ns) where
  -- METHODS THAT CHANGE OR READ SOMETHING HAVE NUMBERS

  caller_in_range : (m n : MethodId) → MayCall p m n → m.0 < length p.methods
  caller_in_range m n (t, e, h) = subst (λ (z : MethodId). z.0 < length p.methods) e (in_range p g.asked t IsCall (calling p s mr entries g t n h).1)

  used_in_range : (t : Statement) (l : Location) → UsesAtAll p t l → t.method.0 < length p.methods
  used_in_range t l u = in_range p g.asked t _ (using p t l u).1

  defined_in_range : (t : Statement) (l : Location) → DefinesAtAll p t l → t.method.0 < length p.methods
  defined_in_range t l d = in_range p g.asked t _ (defining p t l d).1

  walk_in_range : (m n : MethodId) → LeadsBy (MayCall p) m n → n.0 < length p.methods → m.0 < length p.methods
  walk_in_range m n ([], e) lt = subst (λ (z : MethodId). z.0 < length p.methods) (sym e) lt
  walk_in_range m n (x ∷ xs, w) lt = caller_in_range m x w.0

  pub ref_in_range : (m : MethodId) (l : Location) → Ref p m l → m.0 < length p.methods
  ref_in_range m l ref = walk_in_range m ref.1.method ref.2 (used_in_range ref.1 l ref.3)

  pub mod_in_range : (m : MethodId) (l : Location) → Mod p m l → m.0 < length p.methods
  mod_in_range m l changes = walk_in_range m changes.1.method changes.2 (defined_in_range changes.1 l changes.3)

  -- LOCATIONS THAT A METHOD USES AND CHANGES

  pub used_there : (m : MethodId) (n : LocId) (l : Location) → slice_get ns.locations n.0 ≡ Some l → Ref p m l → UsedBy mr m n
  used_there m n l e ref =
      let x = of_system p s mr entries g ns numbers n l e in
      let lt = ref_in_range m l ref in
      let ls = index_at mr.used m.0 (omega (arith, lt, g.effects.used_methods, g.tables.methods)) in
      (ls.0, ls.1, (g.effects.used m ls.0 ls.1).whole n (x.0, x.1, ref_there p s g.coded g.tie l x.0 x.2 m ref))

  pub used_back : (m : MethodId) (n : LocId) → UsedBy mr m n → (l : Location) × (slice_get ns.locations n.0 ≡ Some l) × Ref p m l
  used_back m n (ls, is, c) =
      let x = All-contains (λ (n : LocId). (x : SystemLocation) × (slice_get mr.locations n.0 ≡ Some x) × system.Ref s m x) ls n (g.effects.used m ls is).each c in
      let l = to_program p s mr entries g ns numbers n x.0 x.1 in
      (l.0, l.1, ref_back p s g.coded g.tie l.0 x.0 l.2 m x.2)

  pub changed_there : (m : MethodId) (n : LocId) (l : Location) → slice_get ns.locations n.0 ≡ Some l → Mod p m l → ChangedBy mr m n
  changed_there m n l e changes =
      let x = of_system p s mr entries g ns numbers n l e in
      let lt = mod_in_range m l changes in
      let ls = index_at mr.changed m.0 (omega (arith, lt, g.effects.changed_methods, g.tables.methods)) in
      (ls.0, ls.1, (g.effects.changed m ls.0 ls.1).whole n (x.0, x.1, mod_there p s g.coded g.tie l x.0 x.2 m changes))

  pub changed_back : (m : MethodId) (n : LocId) → ChangedBy mr m n → (l : Location) × (slice_get ns.locations n.0 ≡ Some l) × Mod p m l
  changed_back m n (ls, is, c) =
      let x = All-contains (λ (n : LocId). (x : SystemLocation) × (slice_get mr.locations n.0 ≡ Some x) × system.Mod s m x) ls n (g.effects.changed m ls is).each c in
      let l = to_program p s mr entries g ns numbers n x.0 x.1 in
      (l.0, l.1, mod_back p s g.coded g.tie l.0 x.0 l.2 m x.2)

  -- ARGUMENTS AND EXCEPTIONS OF CALLS

  pub call_of : (t : Statement) → HasOpcode p t IsCall → (c : CallId) × (k : CallSite) × IsCallOf s t c k
  call_of t op = let c = (g.tie.calls t).0 op in (c.0, c.1.0, (c.1.1, c.1.2))

  pub is_call : (t : Statement) (c : CallId) (k : CallSite) → IsCallOf s t c k → HasOpcode p t IsCall
  is_call t c k is = (g.tie.calls t).1 (c, (k, is.0, is.1))

  pub argument_there : (t : Statement) (i : ℕ) (c : CallId) (k : CallSite) → IsCallOf s t c k → HasArgument p t i → i < length k.arguments
  argument_there t i c k is (m, instance, type, called, lt) =
      let own = g.tables.calls.types t c k is in
      let same = one_call_type p g.asked t m own.0 type own.1 in
      let receiver = one_instance p g.asked t instance k.instance called own.2 in
      let there = subst (λ z. i < length (references_of z m)) receiver lt in
      let here = subst (λ z. i < length (references_of k.instance z)) same there in
      omega (arith, subst (λ xs. i < length xs) (sym own.3) here, k.as_many)

  pub argument_back : (t : Statement) (i : ℕ) (c : CallId) (k : CallSite) → IsCallOf s t c k → i < length k.arguments → HasArgument p t i
  argument_back t i c k is lt =
      let own = g.tables.calls.types t c k is in
      let there : i < length k.references = omega (arith, lt, k.as_many) in
      (own.0, k.instance, own.1, own.2, subst (λ xs. i < length xs) own.3 there)

  by_exception : (t : Statement) (h : Site) (f : SystemFact) → Counterpart p s (Has (ExceptionOf t) h) f → SystemHolds s f → (c : CallId) × (k : CallSite) × (n : SiteId) × IsCallOf s t c k × SystemHolds s (Has k.exception n)
  by_exception t h f (has {n} (of_exception c {k} is place e) site) holds = (c, k, n, (is, place), subst (λ (z : Var). SystemHolds s (Has z n)) (sym e) holds)

  pub exception_there : (t : Statement) (h : Site) → Holds p (Has (ExceptionOf t) h) → (c : CallId) × (k : CallSite) × (n : SiteId) × IsCallOf s t c k × SystemHolds s (Has k.exception n)
  exception_there t h holds =
      let f = g.tie.numbered (Has (ExceptionOf t) h) holds in
      by_exception t h f.0 f.1 ((g.tie.facts (Has (ExceptionOf t) h) f.0 f.1).0 holds)

  pub exception_back : (t : Statement) (c : CallId) (k : CallSite) (n : SiteId) → IsCallOf s t c k → SystemHolds s (Has k.exception n) → (h : Site) × Holds p (Has (ExceptionOf t) h) × SiteNumber p n h
  exception_back t c k n is holds =
      let h = g.tie.sites_named k.exception n holds in
      (h.0, (g.tie.facts (Has (ExceptionOf t) h.0) (Has k.exception n) (has (of_exception c is.0 is.1 refl) h.1)).1 holds, h.1)

  by_thrown : (m : MethodId) (h : Site) (f : SystemFact) → Counterpart p s (Has (ThrownBy m) h) f → SystemHolds s f → (v : MethodVars) × (n : SiteId) × IsMethodVars s m v × SystemHolds s (Has v.thrown n)
  by_thrown m h f (has {n} (of_thrown {m = v} vars e) site) holds = (v, n, vars, subst (λ (z : Var). SystemHolds s (Has z n)) (sym e) holds)

  thrown_there : (m : MethodId) (h : Site) → Holds p (Has (ThrownBy m) h) → (v : MethodVars) × (n : SiteId) × IsMethodVars s m v × SystemHolds s (Has v.thrown n)
  thrown_there m h holds =
      let f = g.tie.numbered (Has (ThrownBy m) h) holds in
      by_thrown m h f.0 f.1 ((g.tie.facts (Has (ThrownBy m) h) f.0 f.1).0 holds)

  thrown_back : (m : MethodId) (v : MethodVars) (n : SiteId) → IsMethodVars s m v → SystemHolds s (Has v.thrown n) → (h : Site) × Holds p (Has (ThrownBy m) h)
  thrown_back m v n vars holds =
      let h = g.tie.sites_named v.thrown n holds in
      (h.0, (g.tie.facts (Has (ThrownBy m) h.0) (Has v.thrown n) (has (of_thrown vars refl) h.1)).1 holds)

  by_formal : (m : MethodId) (i : ℕ) (x : Var) → VariableNumber p s (ArgumentOf m i) x → (v : MethodVars) × IsMethodVars s m v × (i < length v.formals)
  by_formal m i x (of_argument {m = v} vars is) = (v, vars, slice_get_within v.formals i x is)

  formal_back : (m : MethodId) (v : MethodVars) (i : ℕ) → IsMethodVars s m v → i < length v.formals → HasFormal p m i
  formal_back m v i vars lt =
      let x = index_at v.formals i lt in
      let variables = g.tables.variables in
      variables.named (ArgumentOf m i) (there_at g.names x.0.0 (Named (ArgumentOf m i)) (variables.numbers (ArgumentOf m i) x.0 (of_argument vars x.1)))

  -- NODES

  abbrev HasNumber : Node → Type 0
  HasNumber a = (k : NodeNumber) × KindNumber ns a.kind k × IsNumbered p s mr entries a.method k

  pub reach : (m : MethodId) → IsReached p m → SystemHolds s (Reached m)
  reach m h = reached_there p s g.coded g.tie m h

  pub unreach : (m : MethodId) → SystemHolds s (Reached m) → IsReached p m
  unreach m h = reached_back p s g.coded g.tie m h

  pub node_there : (a : Node) → IsNode p a → HasNumber a
  node_there a (program.formal {m} {i} reached formal) =
      let x = g.tables.variables.whole (ArgumentOf m i) formal in
      let v = by_formal m i x.0 x.1 in
      (kind.Formal i, numbered.formal, number.formal (reach m reached) v.1 v.2)
  node_there a (program.heap_in {m} {l} reached ref) =
      let n = number_of p s mr entries g ns numbers l ref.0 in
      (kind.HeapIn n.0, numbered.heap_in n.1, number.heap_in (reach m reached) (used_there m n.0 l n.1 ref))
  node_there a (program.own {m} {pc} st) = (kind.Own pc, numbered.own, number.own (reach m st.0) st.1)
  node_there a (program.argument {m} {pc} {i} st given) =
      let c = call_of (at m pc) st.1 in
      (kind.Argument pc i, numbered.argument, number.argument c.0 (reach m st.0) c.2 (argument_there (at m pc) i c.0 c.1 c.2 given))
  node_there a (program.result {m} {pc} t {u} st type e) = (kind.Result pc, numbered.result, number.result (reach m st.0) (t, u, type, e))
  node_there a (program.exception {m} {pc} {h} st holds) =
      let c = exception_there (at m pc) h holds in
      (kind.Exception pc, numbered.exception, number.exception c.0 (reach m st.0) c.3 c.4)
  node_there a (program.heap_arg {m} {pc} {t} {l} holds ref) =
      let n = number_of p s mr entries g ns numbers l ref.0 in
      let c = calls_there p s g.coded g.tie (at m pc) t holds in
      (kind.HeapArg pc n.0, numbered.heap_arg n.1, number.heap_arg (c.1.1, c.1.2) c.2 (used_there t n.0 l n.1 ref))
  node_there a (program.heap_result {m} {pc} {t} {l} holds changes) =
      let n = number_of p s mr entries g ns numbers l changes.0 in
      let c = calls_there p s g.coded g.tie (at m pc) t holds in
      (kind.HeapResult pc n.0, numbered.heap_result n.1, number.heap_result (c.1.1, c.1.2) c.2 (changed_there t n.0 l n.1 changes))
  node_there a (program.returned {m} t {u} reached type e) = (kind.Return, numbered.returned, number.returned (reach m reached) (t, u, type, e))
  node_there a (program.thrown {m} {h} reached holds) =
      let v = thrown_there m h holds in
      (kind.Thrown, numbered.thrown, number.thrown (reach m reached) v.2 v.3)
  node_there a (program.heap_out {m} {l} reached changes) =
      let n = number_of p s mr entries g ns numbers l changes.0 in
      (kind.HeapOut n.0, numbered.heap_out n.1, number.heap_out (reach m reached) (changed_there m n.0 l n.1 changes))
  node_there a (program.root_argument {r} {m} {k} is entry gives) =
      (kind.Argument k 0, numbered.argument, number.root_argument (root_there p s mr entries g r is) (entry_there p s mr entries g k m entry) (given_there p s mr entries g m gives))
  node_there a (program.root_heap_arg {r} {m} {k} {l} is entry ref) =
      let n = number_of p s mr entries g ns numbers l ref.0 in
      (kind.HeapArg k n.0, numbered.heap_arg n.1, number.root_heap_arg (root_there p s mr entries g r is) (entry_there p s mr entries g k m entry) (used_there m n.0 l n.1 ref))
  node_there a (program.root_heap_result {r} {m} {k} {l} is entry changes) =
      let n = number_of p s mr entries g ns numbers l changes.0 in
      (kind.HeapResult k n.0, numbered.heap_result n.1, number.root_heap_result (root_there p s mr entries g r is) (entry_there p s mr entries g k m entry) (changed_there m n.0 l n.1 changes))

  pub node_back : (m : MethodId) (k : NodeNumber) → IsNumbered p s mr entries m k → (a : Kind) × KindNumber ns a k × IsNode p (node m a)
  node_back m k (number.formal {v} {i} reached vars lt) = (Formal i, numbered.formal, program.formal (unreach m reached) (formal_back m v i vars lt))
  node_back m k (number.heap_in {n} reached used) = let l = used_back m n used in (HeapIn l.0, numbered.heap_in l.1, program.heap_in (unreach m reached) l.2)
  node_back m k (number.own {pc} reached op) = (Own pc, numbered.own, program.own (unreach m reached, op))
  node_back m k (number.argument {pc} {i} c {k = site} reached is lt) =
      (Argument pc i, numbered.argument, program.argument (unreach m reached, is_call (at m pc) c site is) (argument_back (at m pc) i c site is lt))
  node_back m k (number.result {pc} reached (t, u, type, e)) = (Result pc, numbered.result, program.result t (unreach m reached, type.0) type e)
  node_back m k (number.exception {pc} c {k = site} {h} reached is holds) =
      let b = exception_back (at m pc) c site h is holds in
      (Exception pc, numbered.exception, program.exception (unreach m reached, is_call (at m pc) c site is) b.1)
  node_back m k (number.heap_arg {pc} {c} {k = site} {t} {n} is holds used) =
      let l = used_back t n used in
      (HeapArg pc l.0, numbered.heap_arg l.1, program.heap_arg (calls_back p s g.coded g.tie (at m pc) c t (site, is.0, is.1) holds) l.2)
  node_back m k (number.heap_result {pc} {c} {k = site} {t} {n} is holds changed) =
      let l = changed_back t n changed in
      (HeapResult pc l.0, numbered.heap_result l.1, program.heap_result (calls_back p s g.coded g.tie (at m pc) c t (site, is.0, is.1) holds) l.2)
  node_back m k (number.returned reached (t, u, type, e)) = (Return, numbered.returned, program.returned t (unreach m reached) type e)
  node_back m k (number.thrown {v} {h} reached vars holds) = let b = thrown_back m v h vars holds in (Thrown, numbered.thrown, program.thrown (unreach m reached) b.1)
  node_back m k (number.heap_out {n} reached changed) = let l = changed_back m n changed in (HeapOut l.0, numbered.heap_out l.1, program.heap_out (unreach m reached) l.2)
  node_back m k (number.root_argument {t} {k = j} is entry given) =
      (Argument j 0, numbered.argument, program.root_argument (root_back p s mr entries g m is) (entry_back p s mr entries g j t entry) (given_back p s mr entries g t given))
  node_back m k (number.root_heap_arg {t} {k = j} {n} is entry used) =
      let l = used_back t n used in
      (HeapArg j l.0, numbered.heap_arg l.1, program.root_heap_arg (root_back p s mr entries g m is) (entry_back p s mr entries g j t entry) l.2)
  node_back m k (number.root_heap_result {t} {k = j} {n} is entry changed) =
      let l = changed_back t n changed in
      (HeapResult j l.0, numbered.heap_result l.1, program.root_heap_result (root_back p s mr entries g m is) (entry_back p s mr entries g j t entry) l.2)

  -- KINDS AND THEIR NUMBERS

  pub one_kind_number : (a : Kind) (k j : NodeNumber) → KindNumber ns a k → KindNumber ns a j → k ≡ j
  one_kind_number a k j numbered.formal numbered.formal = refl
  one_kind_number a k j (numbered.heap_in {l} {n} e) (numbered.heap_in {n = m} f) = ap (λ z. kind.HeapIn z) (one_loc p s mr entries g ns numbers n m l e f)
  one_kind_number a k j numbered.own numbered.own = refl
  one_kind_number a k j numbered.argument numbered.argument = refl
  one_kind_number a k j numbered.result numbered.result = refl
  one_kind_number a k j numbered.exception numbered.exception = refl
  one_kind_number a k j (numbered.heap_arg {pc} {l} {n} e) (numbered.heap_arg {n = m} f) = ap (λ z. kind.HeapArg pc z) (one_loc p s mr entries g ns numbers n m l e f)
  one_kind_number a k j (numbered.heap_result {pc} {l} {n} e) (numbered.heap_result {n = m} f) = ap (λ z. kind.HeapResult pc z) (one_loc p s mr entries g ns numbers n m l e f)
  one_kind_number a k j numbered.returned numbered.returned = refl
  one_kind_number a k j numbered.thrown numbered.thrown = refl
  one_kind_number a k j (numbered.heap_out {l} {n} e) (numbered.heap_out {n = m} f) = ap (λ z. kind.HeapOut z) (one_loc p s mr entries g ns numbers n m l e f)

  pub one_kind : (a b : Kind) (k : NodeNumber) → KindNumber ns a k → KindNumber ns b k → a ≡ b
  one_kind a b k numbered.formal numbered.formal = refl
  one_kind a b k (numbered.heap_in {l} e) (numbered.heap_in {l = m} f) = ap (λ z. HeapIn z) (same_Some l m (sym e ∙ f))
  one_kind a b k numbered.own numbered.own = refl
  one_kind a b k numbered.argument numbered.argument = refl
  one_kind a b k numbered.result numbered.result = refl
  one_kind a b k numbered.exception numbered.exception = refl
  one_kind a b k (numbered.heap_arg {pc} {l} e) (numbered.heap_arg {l = m} f) = ap (λ z. HeapArg pc z) (same_Some l m (sym e ∙ f))
  one_kind a b k (numbered.heap_result {pc} {l} e) (numbered.heap_result {l = m} f) = ap (λ z. HeapResult pc z) (same_Some l m (sym e ∙ f))
  one_kind a b k numbered.returned numbered.returned = refl
  one_kind a b k numbered.thrown numbered.thrown = refl
  one_kind a b k (numbered.heap_out {l} e) (numbered.heap_out {l = m} f) = ap (λ z. HeapOut z) (same_Some l m (sym e ∙ f))

  -- the methods of nodes run, or are the root
  pub runs_or_root : (m : MethodId) (k : NodeNumber) → IsNumbered p s mr entries m k → SystemHolds s (Reached m) ⊎ system_constraint.IsRoot s m
  runs_or_root m k (number.formal reached vars lt) = inl reached
  runs_or_root m k (number.heap_in reached used) = inl reached
  runs_or_root m k (number.own reached op) = inl reached
  runs_or_root m k (number.argument c reached is lt) = inl reached
  runs_or_root m k (number.result reached h) = inl reached
  runs_or_root m k (number.exception c reached is holds) = inl reached
  runs_or_root m k (number.heap_arg {pc} {c} {k = site} {t} is holds used) = inl (reach m (calling p s mr entries g (at m pc) t (calls_back p s g.coded g.tie (at m pc) c t (site, is.0, is.1) holds)).0)
  runs_or_root m k (number.heap_result {pc} {c} {k = site} {t} is holds changed) = inl (reach m (calling p s mr entries g (at m pc) t (calls_back p s g.coded g.tie (at m pc) c t (site, is.0, is.1) holds)).0)
  runs_or_root m k (number.returned reached h) = inl reached
  runs_or_root m k (number.thrown reached vars holds) = inl reached
  runs_or_root m k (number.heap_out reached changed) = inl reached
  runs_or_root m k (number.root_argument is entry given) = inr is
  runs_or_root m k (number.root_heap_arg is entry used) = inr is
  runs_or_root m k (number.root_heap_result is entry changed) = inr is

-- The nodes that rows have are those of the program, by number.
use Rattle.std.proofs.Common.{◌≡◌, ◌⊎◌, ◌↔◌, ◌<◌, ℕ, Bool, true, List, [], Contains, length, Some, inl, inr, refl, sym, ap, subst, ◌∙◌, arith}
use Rattle.std.specs.Prelude.{nat_lt, slice_get}
use Rattle.std.proofs.lemmas.Bool.{ltb-true, lt-ltb}
use Rattle.slicer_ids.specs.declared.ids.CallId.{CallId}
use Rattle.slicer_ids.specs.declared.ids.LocId.{LocId}
use Rattle.slicer_ids.specs.declared.ids.MethodId.{MethodId}
use Rattle.slicer_ids.specs.declared.ids.Statement.{Statement}
use Rattle.class_form.specs.Opcodes.{IsCall}
use Rattle.class_form.specs.declared.body.Body.{Body}
use Rattle.class_form.specs.Reaching.{IsPoint}
use Rattle.class_form.specs.declared.body.Instr.{Instr}
use Rattle.class_form.specs.declared.body.Point.{Point}
use Rattle.dep_form.specs.declared.call_site.CallSite.{CallSite}
use Rattle.dep_form.specs.declared.node.Node.{Node}
use Rattle.dep_form.specs.declared.node.Node.TheVariants.{Formal, HeapIn, Own, Argument, Result, Exception, HeapArg, HeapResult, Return, Thrown, HeapOut}
use Rattle.dep_form.specs.PointsTo.{Reached}
use Rattle.dep_form.specs.Constraints.{IsRoot, SystemHolds}
use Rattle.program_form.specs.Programs.{Program}
use Rattle.program_form.specs.Statements.{HasOpcode, IsAt}
use Rattle.program_form.specs.Nodes.{at}
use Rattle.program_form.specs.Systems.{IsCallOf, IsSystemOf}
use Rattle.program_code.specs.Codes.{IsProgramOfCode}
use Rattle.constraint_form.specs.Asked.{IsReadProgram}
use Rattle.constraint_form.proofs.Instructions.{no_root, one_at}
use Rattle.fact_form.specs.EntryCalls.{IsGiven}
use Rattle.fact_form.specs.NodeNumbers.{ChangedBy, HasResult, IsAnswering, IsNumbered, UsedBy, formal, heap_in, own, argument, result, exception, heap_arg, heap_result, returned, thrown, heap_out, root_argument, root_heap_arg, root_heap_result}
use Rattle.fact_form.proofs.Counting.{reached_in_range}
use Rattle.fact_form.proofs.CallResults.{leaves_result, result_leaves}
use Rattle.node_tables.specs.Rows.{AtBody, AtMethod, AtRoot}
use Rattle.node_tables.specs.Statements.{AtCall, AtEntry, AtEntryCall, AtExit, AtStatement}
use Rattle.node_tables.specs.declared.scene.Scene.{Scene}

module _ (p : Program) (x : Scene) (bodies : p.bodies ≡ x.bodies.now) (asked : IsReadProgram p) (coded : IsProgramOfCode p) (tie : IsSystemOf p x.system.now) where
  abbrev IsOf : MethodId → Node → Type 0
  IsOf m n = IsNumbered p x.system.now x.effects.now x.entries.now m n

  is_of : (m : MethodId) (n k : Node) → n ≡ k → IsOf m k → IsOf m n
  is_of m n k e h = subst (λ z. IsOf m z) (sym e) h

  call_at : (t : Statement) (c : CallId) (k : CallSite) → IsCallOf x.system.now t c k → HasOpcode p t IsCall
  call_at t c k is = (tie.calls t).1 (c, (k, is.0, is.1))

  site_at : (t : Statement) → HasOpcode p t IsCall → (c : CallId) × (k : CallSite) × IsCallOf x.system.now t c k
  site_at t h = let w = (tie.calls t).0 h in (w.0, w.1.0, (w.1.1, w.1.2))

  -- ---- from rows
  module _ (m : MethodId) (reached : SystemHolds x.system.now (Reached m)) where
    module _ (b : Body) (i : Instr) (stands : IsAt p (at m i.pc) b i) where
      call_there : (c : CallId) (k : CallSite) (n : Node) → IsCallOf x.system.now (at m i.pc) c k → AtCall x.system.now x.effects.now c k i.pc (nat_lt 0 i.leaves) n → IsOf m n
      call_there c k n is (inl (j, lt, e)) = is_of m n (Argument i.pc j) e (argument c reached is lt)
      call_there c k n is (inr (inl (leaves, e))) =
          let (d, j, there, call) = call_at (at m i.pc) c k is in
          let same = (one_at p asked (at m i.pc) d b j i there stands).1 in
          is_of m n (Result i.pc) e (result reached (leaves_result p asked coded (at m i.pc) b i stands (subst (λ (z : Instr). IsCall z.op) same call) (ltb-true 0 i.leaves leaves)))
      call_there c k n is (inr (inr (inl (h, has_it, e)))) = is_of m n (Exception i.pc) e (exception c reached is has_it)
      call_there c k n is (inr (inr (inr (inl (l, (t, calls, used), e))))) = is_of m n (HeapArg i.pc l) e (heap_arg is calls used)
      call_there c k n is (inr (inr (inr (inr (l, (t, calls, changed), e))))) = is_of m n (HeapResult i.pc l) e (heap_result is calls changed)

      statement_there : (n : Node) → AtStatement x.system.now x.effects.now (at m i.pc) (nat_lt 0 i.leaves) n → IsOf m n
      statement_there n (inl e) = is_of m n (Own i.pc) e (own reached (b, i, stands, tt))
      statement_there n (inr (c, k, is, there)) = call_there c k n is there

    body_there : (n : Node) → AtBody x m n → IsOf m n
    body_there n (b, among, e, (i, inside, (point, there))) =
        let stands : IsAt p (at m i.pc) b i = (subst (λ (ks : List Body). Contains ks b) (sym bodies) among, e, inside, refl, point) in
        statement_there b i stands n (subst (λ (z : MethodId). AtStatement x.system.now x.effects.now (at z i.pc) (nat_lt 0 i.leaves) n) e there)

    entry_there : (n : Node) → AtEntry x.system.now x.effects.now m n → IsOf m n
    entry_there n (inl (v, i, vars, lt, e)) = is_of m n (Formal i) e (formal reached vars lt)
    entry_there n (inr (l, used, e)) = is_of m n (HeapIn l) e (heap_in reached used)

    module _ (answers : Bool) (answering : (answers ≡ true) ↔ IsAnswering p m) where
      exit_there : (n : Node) → AtExit x.system.now x.effects.now m answers n → IsOf m n
      exit_there n (inl (a, e)) = is_of m n Return e (returned reached (answering.0 a))
      exit_there n (inr (inl (v, h, vars, has_it, e))) = is_of m n Thrown e (thrown reached vars has_it)
      exit_there n (inr (inr (l, changed, e))) = is_of m n (HeapOut l) e (heap_out reached changed)

      pub method_there : (n : Node) → AtMethod x m answers n → IsOf m n
      method_there n (inl h) = entry_there n h
      method_there n (inr (inl h)) = body_there n h
      method_there n (inr (inr h)) = exit_there n h

      -- ---- into rows
      statement_back : (b : Body) (i : Instr) (pc : ℕ) (n : Node) → IsAt p (at m pc) b i → AtStatement x.system.now x.effects.now (at m pc) (nat_lt 0 i.leaves) n → AtMethod x m answers n
      statement_back b i pc n (among, e, inside, f, point) there =
          inr (inl (
            b,
            subst (λ (ks : List Body). Contains ks b) bodies among,
            e,
            (
              i,
              inside,
              (
                subst (λ z. (t : Point) × IsPoint b.shape z t) (sym f) point,
                subst (λ (z : MethodId). AtStatement x.system.now x.effects.now (at z i.pc) (nat_lt 0 i.leaves) n) (sym e)
                    (subst (λ z. AtStatement x.system.now x.effects.now (at m z) (nat_lt 0 i.leaves) n) (sym f) there),
              ),
            ),
          ))

      call_back : (pc : ℕ) (c : CallId) (k : CallSite) (n : Node) → IsCallOf x.system.now (at m pc) c k → ((leaves : Bool) → AtCall x.system.now x.effects.now c k pc leaves n) → AtMethod x m answers n
      call_back pc c k n is there =
          let (b, i, stands, call) = call_at (at m pc) c k is in
          statement_back b i pc n stands (inr (c, k, is, there (nat_lt 0 i.leaves)))

      result_back : (pc : ℕ) → HasResult p (at m pc) → AtMethod x m answers (Result pc)
      result_back pc h =
          let (b, i, stands, call) = h.2.0 in
          let (c, k, is) = site_at (at m pc) h.2.0 in
          statement_back b i pc (Result pc) stands (inr (c, k, is, inr (inl (lt-ltb 0 i.leaves (result_leaves p asked coded (at m pc) b i stands call h), refl))))

      never_root : IsRoot x.system.now m → ⊥
      never_root root = omega (arith, root, reached_in_range x.system.now m reached)

      pub method_back : (n : Node) → IsOf m n → AtMethod x m answers n
      method_back n (formal {v} {i} is vars lt) = inl (inl (v, i, vars, lt, refl))
      method_back n (heap_in {n = l} is used) = inl (inr (l, used, refl))
      method_back n (own {pc} is (b, i, stands, tt)) = statement_back b i pc (Own pc) stands (inl refl)
      method_back n (argument {pc} {i} c {k} is site lt) = call_back pc c k (Argument pc i) site (λ leaves. inl (i, lt, refl))
      method_back n (result {pc} is has_it) = result_back pc has_it
      method_back n (exception {pc} c {k} {h} is site has_it) = call_back pc c k (Exception pc) site (λ leaves. inr (inr (inl (h, has_it, refl))))
      method_back n (heap_arg {pc} {c} {k} {t} {n = l} site calls used) = call_back pc c k (HeapArg pc l) site (λ leaves. inr (inr (inr (inl (l, (t, calls, used), refl)))))
      method_back n (heap_result {pc} {c} {k} {t} {n = l} site calls changed) = call_back pc c k (HeapResult pc l) site (λ leaves. inr (inr (inr (inr (l, (t, calls, changed), refl)))))
      method_back n (returned is h) = inr (inr (inl (answering.1 h, refl)))
      method_back n (thrown {v} {h} is vars has_it) = inr (inr (inr (inl (v, h, vars, has_it, refl))))
      method_back n (heap_out {n = l} is changed) = inr (inr (inr (inr (l, changed, refl))))
      method_back n (root_argument root entry given) = absurd (never_root root)
      method_back n (root_heap_arg root entry used) = absurd (never_root root)
      method_back n (root_heap_result root entry changed) = absurd (never_root root)

  -- ---- the root
  module _ (r : MethodId) (root : IsRoot x.system.now r) where
    pub root_there : (n : Node) → AtRoot x n → IsOf r n
    root_there n (k, t, entry, inl (given, e)) = is_of r n (Argument k 0) e (root_argument root entry given)
    root_there n (k, t, entry, inr (inl (l, used, e))) = is_of r n (HeapArg k l) e (root_heap_arg root entry used)
    root_there n (k, t, entry, inr (inr (l, changed, e))) = is_of r n (HeapResult k l) e (root_heap_result root entry changed)

    not_reached : SystemHolds x.system.now (Reached r) → ⊥
    not_reached reached = omega (arith, root, reached_in_range x.system.now r reached)

    not_a_statement : (pc : ℕ) (c : CallId) (k : CallSite) → IsCallOf x.system.now (at r pc) c k → ⊥
    not_a_statement pc c k is = no_root p asked (at r pc) IsCall (call_at (at r pc) c k is) (root ∙ tie.methods)

    pub root_back : (n : Node) → IsOf r n → AtRoot x n
    root_back n (formal is vars lt) = absurd (not_reached is)
    root_back n (heap_in is used) = absurd (not_reached is)
    root_back n (own is h) = absurd (not_reached is)
    root_back n (argument c is site lt) = absurd (not_reached is)
    root_back n (result is has_it) = absurd (not_reached is)
    root_back n (exception c is site has_it) = absurd (not_reached is)
    root_back n (heap_arg {pc} {c} {k} site calls used) = absurd (not_a_statement pc c k site)
    root_back n (heap_result {pc} {c} {k} site calls changed) = absurd (not_a_statement pc c k site)
    root_back n (returned is h) = absurd (not_reached is)
    root_back n (thrown is vars has_it) = absurd (not_reached is)
    root_back n (heap_out is changed) = absurd (not_reached is)
    root_back n (root_argument {t} {k} is entry given) = (k, t, entry, inl (given, refl))
    root_back n (root_heap_arg {t} {k} {n = l} is entry used) = (k, t, entry, inr (inl (l, used, refl)))
    root_back n (root_heap_result {t} {k} {n = l} is entry changed) = (k, t, entry, inr (inr (l, changed, refl)))

-- The nodes of statements, and those before and after them, in order.
use Rattle.std.proofs.Common.{◌≡◌, ◌⊎◌, ◌↔◌, ◌<◌, ◌+◌, ◌++◌, ℕ, suc, Bool, true, false, List, [], ◌∷◌, Contains, length, inl, inr, refl, sym, ap, subst, ◌∙◌, arith}
use Rattle.std.specs.Prelude.{nat_lt, map}
use Rattle.slicer_ids.specs.Sets.{IsOrderedListOf}
use Rattle.slicer_ids.specs.declared.ids.CallId.{CallId}
use Rattle.slicer_ids.specs.declared.ids.LocId.{LocId}
use Rattle.slicer_ids.specs.declared.ids.MethodId.{MethodId}
use Rattle.slicer_ids.specs.declared.ids.SiteId.{SiteId}
use Rattle.slicer_ids.specs.declared.ids.Statement.{Statement}
use Rattle.class_form.specs.declared.body.Body.{Body}
use Rattle.class_form.specs.declared.body.Instr.{Instr}
use Rattle.dep_form.specs.declared.call_site.CallSite.{CallSite}
use Rattle.dep_form.specs.declared.effects.ModRef.{ModRef}
use Rattle.dep_form.specs.declared.node.Node.{Node}
use Rattle.dep_form.specs.declared.node.Node.TheVariants.{Formal, HeapIn, Own, Argument, Result, Exception, HeapArg, HeapResult, Return, Thrown, HeapOut}
use Rattle.dep_form.specs.declared.rules.MethodVars.{MethodVars}
use Rattle.dep_form.specs.declared.system.System.{System}
use Rattle.dep_form.specs.PointsTo.{Has}
use Rattle.dep_form.specs.Constraints.{IsMethodVars, SystemHolds}
use Rattle.dep_form.specs.Nodes.{ComesBefore, rank}
use Rattle.program_form.specs.Systems.{IsCallOf}
use Rattle.fact_form.specs.EntryCalls.{IsGiven}
use Rattle.fact_form.specs.NodeNumbers.{ChangedBy, UsedBy}
use Rattle.method_facts.specs.Numbers.{LocBefore}
use Rattle.node_tables.specs.declared.segments.Heap.TheVariants.{Entry, Before, After, Exit}
use Rattle.node_tables.specs.Segments.{arguments, call_nodes, entry_nodes, exit_nodes, formals, heap_node, optional, root_nodes}
use Rattle.node_tables.specs.Statements.{AtCall, AtEntry, AtEntryCall, AtExit, AtInstr, AtStatement, IsChangedAt, IsUsedAt}
use Rattle.node_tables.proofs.Joining.{ordered_both, ordered_same}
use Rattle.node_tables.proofs.PartOrder.{IsInPart, arguments_listed, by_group, by_part, by_place, formals_listed, locations_listed, optional_listed}

-- ---- parts of one statement, one after another
abbrev UpTo : ℕ → ℕ → ℕ → Node → Type 0
UpTo g pc b x = (a : ℕ) × (a < b) × IsInPart g pc a x

in_part : (g pc a : ℕ) (x y : Node) → x ≡ y → IsInPart g pc a y → IsInPart g pc a x
in_part g pc a x y e p = subst (λ z. IsInPart g pc a z) (sym e) p

module _ (g pc b : ℕ) (xs ys : List Node) (P Q : Node → Type 0) (o : IsOrderedListOf ComesBefore xs P) (u : IsOrderedListOf ComesBefore ys Q)
    (below : (x : Node) → P x → UpTo g pc b x) (here : (y : Node) → Q y → IsInPart g pc b y) where
  parts_both : IsOrderedListOf ComesBefore (xs ++ ys) (λ x. P x ⊎ Q x)
  parts_both = ordered_both ComesBefore xs ys P Q o u (λ x y p q. let a = below x p in by_part g pc a.0 b x y a.1 a.2 (here y q))

  parts_below : (x : Node) → P x ⊎ Q x → UpTo g pc (b + 1) x
  parts_below x (inl p) = let a = below x p in (a.0, omega (arith, a.1), a.2)
  parts_below x (inr q) = (b, omega arith, here x q)

module _ (s : System) (mr : ModRef) where
  -- ---- a call
  module _ (c : CallId) (k : CallSite) (pc n : ℕ) (answers throws : Bool) (used changed : List LocId) (count : n ≡ length k.arguments)
      (thrown : (throws ≡ true) ↔ ((h : SiteId) × SystemHolds s (Has k.exception h)))
      (uses : IsOrderedListOf LocBefore used (IsUsedAt s mr c)) (changes : IsOrderedListOf LocBefore changed (IsChangedAt s mr c)) where
    abbrev A : Node → Type 0
    A x = (i : ℕ) × (i < n) × (x ≡ Argument pc i)

    abbrev R : Node → Type 0
    R x = (answers ≡ true) × (x ≡ Result pc)

    abbrev E : Node → Type 0
    E x = (throws ≡ true) × (x ≡ Exception pc)

    abbrev U : Node → Type 0
    U x = (n : LocId) × IsUsedAt s mr c n × (x ≡ heap_node (Before pc) n)

    abbrev C : Node → Type 0
    C x = (n : LocId) × IsChangedAt s mr c n × (x ≡ heap_node (After pc) n)

    a_below : (x : Node) → A x → UpTo 2 pc 2 x
    a_below x (i, lt, e) = (1, omega arith, in_part 2 pc 1 x (Argument pc i) e (record { group = refl; place = refl; within = refl }))

    r_here : (x : Node) → R x → IsInPart 2 pc 2 x
    r_here x (t, e) = in_part 2 pc 2 x (Result pc) e (record { group = refl; place = refl; within = refl })

    e_here : (x : Node) → E x → IsInPart 2 pc 3 x
    e_here x (t, e) = in_part 2 pc 3 x (Exception pc) e (record { group = refl; place = refl; within = refl })

    u_here : (x : Node) → U x → IsInPart 2 pc 4 x
    u_here x (n, is, e) = in_part 2 pc 4 x (HeapArg pc n) e (record { group = refl; place = refl; within = refl })

    c_here : (x : Node) → C x → IsInPart 2 pc 5 x
    c_here x (n, is, e) = in_part 2 pc 5 x (HeapResult pc n) e (record { group = refl; place = refl; within = refl })

    abbrev AR : Node → Type 0
    AR x = A x ⊎ R x

    abbrev ARE : Node → Type 0
    ARE x = AR x ⊎ E x

    abbrev AREU : Node → Type 0
    AREU x = ARE x ⊎ U x

    one : IsOrderedListOf ComesBefore (arguments pc n ++ optional answers (Result pc)) AR
    one = parts_both 2 pc 2 (arguments pc n) (optional answers (Result pc)) A R (arguments_listed pc n) (optional_listed answers (Result pc)) a_below r_here

    one_below : (x : Node) → AR x → UpTo 2 pc 3 x
    one_below = parts_below 2 pc 2 (arguments pc n) (optional answers (Result pc)) A R (arguments_listed pc n) (optional_listed answers (Result pc)) a_below r_here

    two : IsOrderedListOf ComesBefore (arguments pc n ++ optional answers (Result pc) ++ optional throws (Exception pc)) ARE
    two = parts_both 2 pc 3 (arguments pc n ++ optional answers (Result pc)) (optional throws (Exception pc)) AR E one (optional_listed throws (Exception pc)) one_below e_here

    two_below : (x : Node) → ARE x → UpTo 2 pc 4 x
    two_below = parts_below 2 pc 3 (arguments pc n ++ optional answers (Result pc)) (optional throws (Exception pc)) AR E one (optional_listed throws (Exception pc)) one_below e_here

    three : IsOrderedListOf ComesBefore (arguments pc n ++ optional answers (Result pc) ++ optional throws (Exception pc) ++ map (heap_node (Before pc)) used) AREU
    three = parts_both 2 pc 4 (arguments pc n ++ optional answers (Result pc) ++ optional throws (Exception pc)) (map (heap_node (Before pc)) used) ARE U two (locations_listed (Before pc) used (IsUsedAt s mr c) uses) two_below u_here

    three_below : (x : Node) → AREU x → UpTo 2 pc 5 x
    three_below = parts_below 2 pc 4 (arguments pc n ++ optional answers (Result pc) ++ optional throws (Exception pc)) (map (heap_node (Before pc)) used) ARE U two (locations_listed (Before pc) used (IsUsedAt s mr c) uses) two_below u_here

    four : IsOrderedListOf ComesBefore (call_nodes pc n answers throws used changed) (λ x. AREU x ⊎ C x)
    four = parts_both 2 pc 5 (arguments pc n ++ optional answers (Result pc) ++ optional throws (Exception pc) ++ map (heap_node (Before pc)) used) (map (heap_node (After pc)) changed) AREU C three (locations_listed (After pc) changed (IsChangedAt s mr c) changes) three_below c_here

    to : (x : Node) → AREU x ⊎ C x → AtCall s mr c k pc answers x
    to x (inl (inl (inl (inl (i, lt, e))))) = inl (i, omega (arith, lt, count), e)
    to x (inl (inl (inl (inr r)))) = inr (inl r)
    to x (inl (inl (inr (t, e)))) = let h = thrown.0 t in inr (inr (inl (h.0, h.1, e)))
    to x (inl (inr u)) = inr (inr (inr (inl u)))
    to x (inr d) = inr (inr (inr (inr d)))

    from : (x : Node) → AtCall s mr c k pc answers x → AREU x ⊎ C x
    from x (inl (i, lt, e)) = inl (inl (inl (inl (i, omega (arith, lt, count), e))))
    from x (inr (inl r)) = inl (inl (inl (inr r)))
    from x (inr (inr (inl (h, has_it, e)))) = inl (inl (inr (thrown.1 (h, has_it), e)))
    from x (inr (inr (inr (inl u)))) = inl (inr u)
    from x (inr (inr (inr (inr d)))) = inr d

    pub call_listed : IsOrderedListOf ComesBefore (call_nodes pc n answers throws used changed) (AtCall s mr c k pc answers)
    call_listed = ordered_same ComesBefore (call_nodes pc n answers throws used changed) (λ x. AREU x ⊎ C x) (AtCall s mr c k pc answers) to from four

  -- a node of a call stands at it, and is not the statement's own
  pub call_place : (c : CallId) (k : CallSite) (pc : ℕ) (answers : Bool) (x : Node) → AtCall s mr c k pc answers x → (part : ℕ) × (0 < part) × IsInPart 2 pc part x
  call_place c k pc answers x (inl (i, lt, e)) = (1, omega arith, in_part 2 pc 1 x (Argument pc i) e (record { group = refl; place = refl; within = refl }))
  call_place c k pc answers x (inr (inl (t, e))) = (2, omega arith, in_part 2 pc 2 x (Result pc) e (record { group = refl; place = refl; within = refl }))
  call_place c k pc answers x (inr (inr (inl (h, has_it, e)))) = (3, omega arith, in_part 2 pc 3 x (Exception pc) e (record { group = refl; place = refl; within = refl }))
  call_place c k pc answers x (inr (inr (inr (inl (n, is, e))))) = (4, omega arith, in_part 2 pc 4 x (HeapArg pc n) e (record { group = refl; place = refl; within = refl }))
  call_place c k pc answers x (inr (inr (inr (inr (n, is, e))))) = (5, omega arith, in_part 2 pc 5 x (HeapResult pc n) e (record { group = refl; place = refl; within = refl }))

  pub own_before : (pc : ℕ) (c : CallId) (k : CallSite) (answers : Bool) (x y : Node) → x ≡ Own pc → AtCall s mr c k pc answers y → ComesBefore x y
  own_before pc c k answers x y e at = let w = call_place c k pc answers y at in by_part 2 pc 0 w.0 x y w.1 (in_part 2 pc 0 x (Own pc) e (record { group = refl; place = refl; within = refl })) w.2

  -- ---- a statement
  pub statement_place : (t : Statement) (answers : Bool) (x : Node) → AtStatement s mr t answers x → ((rank x).group ≡ 2) × ((rank x).pc ≡ t.pc)
  statement_place t answers x (inl e) = let p = in_part 2 t.pc 0 x (Own t.pc) e (record { group = refl; place = refl; within = refl }) in (p.group, p.place)
  statement_place t answers x (inr (c, k, is, at)) = let w = call_place c k t.pc answers x at in (w.2.group, w.2.place)

  pub instr_before : (b : Body) (i j : Instr) (x y : Node) → i.pc < j.pc → AtInstr s mr b i x → AtInstr s mr b j y → ComesBefore x y
  instr_before b i j x y lt at there =
      let p = statement_place (record { method = b.method; pc = i.pc }) (nat_lt 0 i.leaves) x at.1 in
      let q = statement_place (record { method = b.method; pc = j.pc }) (nat_lt 0 j.leaves) y there.1 in
      by_place x y (p.0 ∙ sym q.0) (omega (arith, lt, p.1, q.1))

  -- ---- before the statements, and after them
  module _ (m : MethodId) (v : MethodVars) (vars : IsMethodVars s m v) where
    abbrev Formals : Node → Type 0
    Formals x = (i : ℕ) × (i < length v.formals) × (x ≡ Formal i)

    abbrev Ins : Node → Type 0
    Ins x = (n : LocId) × UsedBy mr m n × (x ≡ heap_node Entry n)

    formal_first : (x y : Node) → Formals x → Ins y → ComesBefore x y
    formal_first x y (i, lt, e) (n, is, f) = subst (λ z. ComesBefore z y) (sym e) (subst (λ z. ComesBefore (Formal i) z) (sym f) (by_group (Formal i) (HeapIn n) (omega arith)))

    entry_to : (x : Node) → Formals x ⊎ Ins x → AtEntry s mr m x
    entry_to x (inl (i, lt, e)) = inl (v, i, vars, lt, e)
    entry_to x (inr h) = inr h

    module _ (same : (w : MethodVars) → IsMethodVars s m w → w ≡ v) where
      entry_from : (x : Node) → AtEntry s mr m x → Formals x ⊎ Ins x
      entry_from x (inl (w, i, is, lt, e)) = inl (i, subst (λ (z : MethodVars). i < length z.formals) (same w is) lt, e)
      entry_from x (inr h) = inr h

      pub entry_listed : (used : List LocId) → IsOrderedListOf LocBefore used (UsedBy mr m) → IsOrderedListOf ComesBefore (entry_nodes (length v.formals) used) (AtEntry s mr m)
      entry_listed used uses =
          ordered_same ComesBefore (entry_nodes (length v.formals) used) (λ x. Formals x ⊎ Ins x) (AtEntry s mr m) entry_to entry_from
          (ordered_both ComesBefore (formals (length v.formals)) (map (heap_node Entry) used) Formals Ins (formals_listed (length v.formals)) (locations_listed Entry used (UsedBy mr m) uses) formal_first)

      module _ (answers throws : Bool) (thrown : (throws ≡ true) ↔ ((h : SiteId) × SystemHolds s (Has v.thrown h))) where
        abbrev Returns : Node → Type 0
        Returns x = (answers ≡ true) × (x ≡ Return)

        abbrev Throws : Node → Type 0
        Throws x = (throws ≡ true) × (x ≡ Thrown)

        abbrev Outs : Node → Type 0
        Outs x = (n : LocId) × ChangedBy mr m n × (x ≡ heap_node Exit n)

        return_first : (x y : Node) → Returns x → Throws y → ComesBefore x y
        return_first x y (a, e) (t, f) = subst (λ z. ComesBefore z y) (sym e) (subst (λ z. ComesBefore Return z) (sym f) (by_group Return Thrown (omega arith)))

        both_first : (x y : Node) → Returns x ⊎ Throws x → Outs y → ComesBefore x y
        both_first x y (inl (a, e)) (n, is, f) = subst (λ z. ComesBefore z y) (sym e) (subst (λ z. ComesBefore Return z) (sym f) (by_group Return (HeapOut n) (omega arith)))
        both_first x y (inr (t, e)) (n, is, f) = subst (λ z. ComesBefore z y) (sym e) (subst (λ z. ComesBefore Thrown z) (sym f) (by_group Thrown (HeapOut n) (omega arith)))

        exit_to : (x : Node) → (Returns x ⊎ Throws x) ⊎ Outs x → AtExit s mr m answers x
        exit_to x (inl (inl r)) = inl r
        exit_to x (inl (inr (t, e))) = let h = thrown.0 t in inr (inl (v, h.0, vars, h.1, e))
        exit_to x (inr o) = inr (inr o)

        exit_from : (x : Node) → AtExit s mr m answers x → (Returns x ⊎ Throws x) ⊎ Outs x
        exit_from x (inl r) = inl (inl r)
        exit_from x (inr (inl (w, h, is, has_it, e))) = inl (inr (thrown.1 (h, subst (λ (z : MethodVars). SystemHolds s (Has z.thrown h)) (same w is) has_it), e))
        exit_from x (inr (inr o)) = inr o

        pub exit_listed : (changed : List LocId) → IsOrderedListOf LocBefore changed (ChangedBy mr m) → IsOrderedListOf ComesBefore (exit_nodes answers throws changed) (AtExit s mr m answers)
        exit_listed changed changes =
            ordered_same ComesBefore (exit_nodes answers throws changed) (λ x. (Returns x ⊎ Throws x) ⊎ Outs x) (AtExit s mr m answers) exit_to exit_from
            (ordered_both ComesBefore (optional answers Return ++ optional throws Thrown) (map (heap_node Exit) changed) (λ x. Returns x ⊎ Throws x) Outs
            (ordered_both ComesBefore (optional answers Return) (optional throws Thrown) Returns Throws (optional_listed answers Return) (optional_listed throws Thrown) return_first)
            (locations_listed Exit changed (ChangedBy mr m) changes) both_first)

  -- ---- a call of the root
  module _ (k : ℕ) (t : MethodId) (given : Bool) (gives : (given ≡ true) ↔ IsGiven s t) (used changed : List LocId)
      (uses : IsOrderedListOf LocBefore used (UsedBy mr t)) (changes : IsOrderedListOf LocBefore changed (ChangedBy mr t)) where
    abbrev G : Node → Type 0
    G x = (given ≡ true) × (x ≡ Argument k 0)

    abbrev V : Node → Type 0
    V x = (n : LocId) × UsedBy mr t n × (x ≡ heap_node (Before k) n)

    abbrev W : Node → Type 0
    W x = (n : LocId) × ChangedBy mr t n × (x ≡ heap_node (After k) n)

    g_below : (x : Node) → G x → UpTo 2 k 4 x
    g_below x (t, e) = (1, omega arith, in_part 2 k 1 x (Argument k 0) e (record { group = refl; place = refl; within = refl }))

    v_here : (x : Node) → V x → IsInPart 2 k 4 x
    v_here x (n, is, e) = in_part 2 k 4 x (HeapArg k n) e (record { group = refl; place = refl; within = refl })

    w_here : (x : Node) → W x → IsInPart 2 k 5 x
    w_here x (n, is, e) = in_part 2 k 5 x (HeapResult k n) e (record { group = refl; place = refl; within = refl })

    root_to : (x : Node) → (G x ⊎ V x) ⊎ W x → AtEntryCall s mr k t x
    root_to x (inl (inl (b, e))) = inl (gives.0 b, e)
    root_to x (inl (inr v)) = inr (inl v)
    root_to x (inr w) = inr (inr w)

    root_from : (x : Node) → AtEntryCall s mr k t x → (G x ⊎ V x) ⊎ W x
    root_from x (inl (is, e)) = inl (inl (gives.1 is, e))
    root_from x (inr (inl v)) = inl (inr v)
    root_from x (inr (inr w)) = inr w

    pub entry_call_listed : IsOrderedListOf ComesBefore (root_nodes k given used changed) (AtEntryCall s mr k t)
    entry_call_listed =
        let o = optional_listed given (Argument k 0) in
        let u = locations_listed (Before k) used (UsedBy mr t) uses in
        let w = locations_listed (After k) changed (ChangedBy mr t) changes in
        ordered_same ComesBefore (root_nodes k given used changed) (λ x. (G x ⊎ V x) ⊎ W x) (AtEntryCall s mr k t) root_to root_from
        (parts_both 2 k 5 (optional given (Argument k 0) ++ map (heap_node (Before k)) used) (map (heap_node (After k)) changed) (λ x. G x ⊎ V x) W
        (parts_both 2 k 4 (optional given (Argument k 0)) (map (heap_node (Before k)) used) G V o u g_below v_here) w
        (parts_below 2 k 4 (optional given (Argument k 0)) (map (heap_node (Before k)) used) G V o u g_below v_here) w_here)

  pub entry_call_place : (k : ℕ) (t : MethodId) (x : Node) → AtEntryCall s mr k t x → ((rank x).group ≡ 2) × ((rank x).pc ≡ k)
  entry_call_place k t x (inl (is, e)) = let p = in_part 2 k 1 x (Argument k 0) e (record { group = refl; place = refl; within = refl }) in (p.group, p.place)
  entry_call_place k t x (inr (inl (n, is, e))) = let p = in_part 2 k 4 x (HeapArg k n) e (record { group = refl; place = refl; within = refl }) in (p.group, p.place)
  entry_call_place k t x (inr (inr (n, is, e))) = let p = in_part 2 k 5 x (HeapResult k n) e (record { group = refl; place = refl; within = refl }) in (p.group, p.place)

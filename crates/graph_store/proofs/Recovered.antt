-- The graph of an input: from the mere fact that a graph is that, how it is.
use Rattle.std.proofs.Common.{◌≡◌, ◌<◌, ◌≤◌, ◌+◌, ◌-◌, ◌⊎◌, ℕ, zero, suc, List, [], ◌∷◌, length, Bool, true, false, ◌&&◌, Option, Some, None, refl, sym, ap, ◌∙◌, subst, inl, inr, arith, true≢false, Decides, eqb, leb, ltb, get_or}
use Rattle.std.specs.Prelude.{Contains, slice_get, All, AllPairs}
use Rattle.std.proofs.Math.Logic.{∥∥₁_elim, ∥∥₁_prop}
use Rattle.std.proofs.Props.{props}
use Rattle.std.proofs.lemmas.Bool.{and_from, and_parts, eqb-true, eq-eqb, leb-true, le-leb, ltb-true, lt-ltb}
use Rattle.std.proofs.lemmas.Option.{same_Some, none-some}
use Rattle.slicer_ids.specs.Walks.{IsWalk, LeadsBy, LeadsOn}
use Rattle.slicer_ids.specs.Sets.{IsOrderedListOf}
use Rattle.slicer_ids.specs.declared.ids.NodeId.{NodeId}
use Rattle.slicer_ids.specs.declared.ids.LocId.{LocId}
use Rattle.slicer_ids.specs.declared.ids.CallId.{CallId}
use Rattle.dep_form.specs.declared.node.Node.{Node}
use Rattle.dep_form.specs.declared.node.Node.TheVariants.{Formal, HeapIn, Own, Argument, Result, Exception, HeapArg, HeapResult, Return, Thrown, HeapOut}
use Rattle.dep_form.specs.declared.node.Edge.{Edge}
use Rattle.dep_form.specs.declared.node.Label.{Label}
use Rattle.dep_form.specs.declared.node.Label.TheVariants.{Thin, Base, Call, Return as Back}
use Rattle.dep_form.specs.declared.input.MethodInput.{MethodInput}
use Rattle.dep_form.specs.declared.graph.Graph.{Graph}
use Rattle.dep_form.specs.Inputs.{IsNodeOf, Flow, IsHeapFlow, IsEdgeOf}
use Rattle.dep_form.specs.Graphs.{IsGraphOf, EdgeBefore, label_kind, label_call}
use Rattle.graph_store.proofs.Found.{Found, had, decided, one_of, with_test, same_facts, some_of, some_from, some_gives, among, place_of, contained}

same_number : (m n : ℕ) → Decides (eqb m n) (m ≡ n)
same_number m n = (eqb-true m n, eq-eqb m n)

same_node : (a b : NodeId) → Decides (eqb a.0 b.0) (a ≡ b)
same_node a b = ((λ e. ap (λ k. record { 0 = k }) (eqb-true a.0 b.0 e)), (λ e. eq-eqb a.0 b.0 (ap (λ (n : NodeId). n.0) e)))

same_place : (l m : LocId) → Decides (eqb l.0 m.0) (l ≡ m)
same_place l m = ((λ e. ap (λ k. record { 0 = k }) (eqb-true l.0 m.0 e)), (λ e. eq-eqb l.0 m.0 (ap (λ (n : LocId). n.0) e)))

one_call : (c d : CallId) → c.0 ≡ d.0 → c ≡ d
one_call c d e = ap (λ k. record { 0 = k }) e

one_label : (a b : Label) → label_kind a ≡ label_kind b → label_call a ≡ label_call b → a ≡ b
one_label Thin Thin k c = refl
one_label Base Base k c = refl
one_label (Call x) (Call y) k c = ap Call (one_call x y c)
one_label (Back x) (Back y) k c = ap Back (one_call x y c)
one_label Thin Base k c = absurd (omega arith)
one_label Thin (Call y) k c = absurd (omega arith)
one_label Thin (Back y) k c = absurd (omega arith)
one_label Base Thin k c = absurd (omega arith)
one_label Base (Call y) k c = absurd (omega arith)
one_label Base (Back y) k c = absurd (omega arith)
one_label (Call x) Thin k c = absurd (omega arith)
one_label (Call x) Base k c = absurd (omega arith)
one_label (Call x) (Back y) k c = absurd (omega arith)
one_label (Back x) Thin k c = absurd (omega arith)
one_label (Back x) Base k c = absurd (omega arith)
one_label (Back x) (Call y) k c = absurd (omega arith)

same_label : (a b : Label) → Decides (eqb (label_kind a) (label_kind b) && eqb (label_call a) (label_call b)) (a ≡ b)
same_label a b = (
  (λ e. let p = and_parts _ _ e in one_label a b (eqb-true _ _ p.0) (eqb-true _ _ p.1)),
  (λ e. and_from _ _ (eq-eqb _ _ (ap label_kind e)) (eq-eqb _ _ (ap label_call e))),
)

one_edge : (a b : Edge) → a.from ≡ b.from → a.to ≡ b.to → a.label ≡ b.label → a ≡ b
one_edge a b f t l = λ i. record { from = f i; to = t i; label = l i }

-- a walk is found by its length
walks : List (ℕ × ℕ) → ℕ → ℕ → ℕ → Bool
walks flow zero a b = eqb a b
walks flow (suc n) a b = some_of (λ p. eqb p.0 a && walks flow n p.1 b) flow

walk_from : (flow : List (ℕ × ℕ)) (n a b : ℕ) → walks flow n a b ≡ true → LeadsBy (λ p q. Contains flow (p, q)) a b
unfolding walks
walk_from flow zero a b e = ([], eqb-true a b e)
walk_from flow (suc n) a b e =
    let r = some_gives (λ p. eqb p.0 a && walks flow n p.1 b) flow e in
    let p = and_parts _ _ r.3 in
    let rest = walk_from flow n r.0.1 b p.1 in
    (r.0.1 ∷ rest.0, (subst (λ z. Contains flow (z, r.0.1)) (eqb-true r.0.0 a p.0) (contained flow r.0 r.1 r.2), rest.1))

walk_is_found : (flow : List (ℕ × ℕ)) (a b : ℕ) (xs : List ℕ) → IsWalk (λ p q. Contains flow (p, q)) a xs b → walks flow (length xs) a b ≡ true
unfolding walks
walk_is_found flow a b [] e = eq-eqb a b e
walk_is_found flow a b (x ∷ xs) w =
    let at = place_of {X = ℕ × ℕ} flow (a, x) w.0 in
    some_from (λ p. eqb p.0 a && walks flow (length xs) p.1 b) flow at.0 (a, x) at.1 (and_from _ _ (eq-eqb a a refl) (walk_is_found flow x b xs w.1))

leads_by : (flow : List (ℕ × ℕ)) (a b : ℕ) → Found (LeadsBy (λ p q. Contains flow (p, q)) a b)
leads_by flow a b = record { test = λ n. walks flow n a b; sound = λ n e. walk_from flow n a b e; whole = λ w. (length w.0, walk_is_found flow a b w.0 w.1) }

leads_on : (i : MethodInput) (a b : ℕ) → Found (LeadsOn (Flow i) a b)
leads_on i a b =
    same_facts
    (λ h. (h.0.1, subst (λ z. Contains i.flow (z, h.0.1)) h.1.1.0 h.1.0, h.1.1.1))
    (λ h. ((a, h.0), (h.1, (refl, h.2))))
    (among i.flow (λ (z : ℕ × ℕ). (z.0 ≡ a) × LeadsBy (Flow i) z.1 b) (λ z. with_test _ (same_number z.0 a) (leads_by i.flow z.1 b)))

-- a node of one kind
is_heap_in : Option Node → LocId → Bool
is_heap_in None l = false
is_heap_in (Some (HeapIn m)) l = eqb m.0 l.0
is_heap_in (Some k) l = false

is_heap_out : Option Node → LocId → Bool
is_heap_out None l = false
is_heap_out (Some (HeapOut m)) l = eqb m.0 l.0
is_heap_out (Some k) l = false

-- the location of a node
loc_of : Node → LocId
loc_of (HeapIn m) = m
loc_of (HeapOut m) = m
loc_of k = record { 0 = 0 }

is_in_kind : Option Node → Bool
is_in_kind (Some (HeapIn m)) = false
is_in_kind o = true

is_out_kind : Option Node → Bool
is_out_kind (Some (HeapOut m)) = false
is_out_kind o = true

heap_in_is : (o : Option Node) (l : LocId) → Decides (is_heap_in o l) (o ≡ Some (HeapIn l))
unfolding is_heap_in is_in_kind loc_of
heap_in_is None l = ((λ e. absurd (true≢false (sym e))), (λ e. absurd (none-some (HeapIn l) e)))
heap_in_is (Some (Formal n)) l = ((λ e. absurd (true≢false (sym e))), (λ e. absurd (true≢false (ap is_in_kind e))))
heap_in_is (Some (HeapIn m)) l = ((λ e. ap (λ x. Some (HeapIn x)) ((same_place m l).0 e)), (λ e. (same_place m l).1 (ap loc_of (same_Some (HeapIn m) (HeapIn l) e))))
heap_in_is (Some (Own pc)) l = ((λ e. absurd (true≢false (sym e))), (λ e. absurd (true≢false (ap is_in_kind e))))
heap_in_is (Some (Argument pc n)) l = ((λ e. absurd (true≢false (sym e))), (λ e. absurd (true≢false (ap is_in_kind e))))
heap_in_is (Some (Result pc)) l = ((λ e. absurd (true≢false (sym e))), (λ e. absurd (true≢false (ap is_in_kind e))))
heap_in_is (Some (Exception pc)) l = ((λ e. absurd (true≢false (sym e))), (λ e. absurd (true≢false (ap is_in_kind e))))
heap_in_is (Some (HeapArg pc m)) l = ((λ e. absurd (true≢false (sym e))), (λ e. absurd (true≢false (ap is_in_kind e))))
heap_in_is (Some (HeapResult pc m)) l = ((λ e. absurd (true≢false (sym e))), (λ e. absurd (true≢false (ap is_in_kind e))))
heap_in_is (Some Return) l = ((λ e. absurd (true≢false (sym e))), (λ e. absurd (true≢false (ap is_in_kind e))))
heap_in_is (Some Thrown) l = ((λ e. absurd (true≢false (sym e))), (λ e. absurd (true≢false (ap is_in_kind e))))
heap_in_is (Some (HeapOut m)) l = ((λ e. absurd (true≢false (sym e))), (λ e. absurd (true≢false (ap is_in_kind e))))

heap_out_is : (o : Option Node) (l : LocId) → Decides (is_heap_out o l) (o ≡ Some (HeapOut l))
unfolding is_heap_out is_out_kind loc_of
heap_out_is None l = ((λ e. absurd (true≢false (sym e))), (λ e. absurd (none-some (HeapOut l) e)))
heap_out_is (Some (Formal n)) l = ((λ e. absurd (true≢false (sym e))), (λ e. absurd (true≢false (ap is_out_kind e))))
heap_out_is (Some (HeapIn m)) l = ((λ e. absurd (true≢false (sym e))), (λ e. absurd (true≢false (ap is_out_kind e))))
heap_out_is (Some (Own pc)) l = ((λ e. absurd (true≢false (sym e))), (λ e. absurd (true≢false (ap is_out_kind e))))
heap_out_is (Some (Argument pc n)) l = ((λ e. absurd (true≢false (sym e))), (λ e. absurd (true≢false (ap is_out_kind e))))
heap_out_is (Some (Result pc)) l = ((λ e. absurd (true≢false (sym e))), (λ e. absurd (true≢false (ap is_out_kind e))))
heap_out_is (Some (Exception pc)) l = ((λ e. absurd (true≢false (sym e))), (λ e. absurd (true≢false (ap is_out_kind e))))
heap_out_is (Some (HeapArg pc m)) l = ((λ e. absurd (true≢false (sym e))), (λ e. absurd (true≢false (ap is_out_kind e))))
heap_out_is (Some (HeapResult pc m)) l = ((λ e. absurd (true≢false (sym e))), (λ e. absurd (true≢false (ap is_out_kind e))))
heap_out_is (Some Return) l = ((λ e. absurd (true≢false (sym e))), (λ e. absurd (true≢false (ap is_out_kind e))))
heap_out_is (Some Thrown) l = ((λ e. absurd (true≢false (sym e))), (λ e. absurd (true≢false (ap is_out_kind e))))
heap_out_is (Some (HeapOut m)) l = ((λ e. ap (λ x. Some (HeapOut x)) ((same_place m l).0 e)), (λ e. (same_place m l).1 (ap loc_of (same_Some (HeapOut m) (HeapOut l) e))))

heap_in_at : (i : MethodInput) (a : NodeId) (l : LocId) → Decides (leb i.first.0 a.0 && is_heap_in (slice_get i.nodes (a.0 - i.first.0)) l) (IsNodeOf i a (HeapIn l))
heap_in_at i a l =
    let d = heap_in_is (slice_get i.nodes (a.0 - i.first.0)) l in (
      (λ e. let p = and_parts _ _ e in (leb-true _ _ p.0, d.0 p.1)),
      (λ h. and_from _ _ (le-leb _ _ h.0) (d.1 h.1)),
    )

heap_out_at : (i : MethodInput) (a : NodeId) (l : LocId) → Decides (leb i.first.0 a.0 && is_heap_out (slice_get i.nodes (a.0 - i.first.0)) l) (IsNodeOf i a (HeapOut l))
heap_out_at i a l =
    let d = heap_out_is (slice_get i.nodes (a.0 - i.first.0)) l in (
      (λ e. let p = and_parts _ _ e in (leb-true _ _ p.0, d.0 p.1)),
      (λ h. and_from _ _ (le-leb _ _ h.0) (d.1 h.1)),
    )

module _ (i : MethodInput) (a b : NodeId) where
  -- the flow of a location, by the definitions and uses that it joins
  abbrev Use : Type 0
  Use = ℕ × NodeId × LocId

  abbrev Between : Type 0
  Between = (x : Use) × (Contains i.puts x × ((x.1 ≡ a) × ((y : Use) × (Contains i.gets y × ((y.1 ≡ b) × ((x.2 ≡ y.2) × LeadsOn (Flow i) x.0 y.0))))))

  abbrev FromEntry : Type 0
  FromEntry = (y : Use) × (Contains i.gets y × ((y.1 ≡ b) × IsNodeOf i a (HeapIn y.2)))

  abbrev ToExit : Type 0
  ToExit = (x : Use) × (Contains i.puts x × ((x.1 ≡ a) × IsNodeOf i b (HeapOut x.2)))

  to_flow : Between ⊎ (FromEntry ⊎ ToExit) → IsHeapFlow i a b
  to_flow (inl (x, (put, (is_a, (y, (get, (is_b, (one, on)))))))) = (
    x.2,
    inl (
      x.0,
      y.0,
      subst (λ (n : NodeId). Contains {X = ℕ × NodeId × LocId} i.puts (x.0, n, x.2)) is_a put,
      subst (λ (z : NodeId × LocId). Contains {X = ℕ × NodeId × LocId} i.gets (y.0, z.0, z.1)) (λ t. (is_b t, sym one t)) get,
      on,
    ),
  )
  to_flow (inr (inl (y, (get, (is_b, node))))) = (
    y.2,
    inr (inl (y.0, node, subst (λ (n : NodeId). Contains {X = ℕ × NodeId × LocId} i.gets (y.0, n, y.2)) is_b get)),
  )
  to_flow (inr (inr (x, (put, (is_a, node))))) = (
    x.2,
    inr (inr (x.0, subst (λ (n : NodeId). Contains {X = ℕ × NodeId × LocId} i.puts (x.0, n, x.2)) is_a put, node)),
  )

  from_flow : IsHeapFlow i a b → Between ⊎ (FromEntry ⊎ ToExit)
  from_flow (l, inl (p, q, put, get, on)) = inl ((p, a, l), (put, (refl, ((q, b, l), (get, (refl, (refl, on)))))))
  from_flow (l, inr (inl (q, node, get))) = inr (inl ((q, b, l), (get, (refl, node))))
  from_flow (l, inr (inr (p, put, node))) = inr (inr ((p, a, l), (put, (refl, node))))

  heap_flow : Found (IsHeapFlow i a b)
  heap_flow =
      same_facts to_flow from_flow
      (one_of
      (among i.puts _ (λ x. with_test _ (same_node x.1 a) (among i.gets _ (λ y. with_test _ (same_node y.1 b) (with_test _ (same_place x.2 y.2) (leads_on i x.0 y.0))))))
      (one_of
      (among i.gets _ (λ y. with_test _ (same_node y.1 b) (decided _ (heap_in_at i a y.2))))
      (among i.puts _ (λ x. with_test _ (same_node x.1 a) (decided _ (heap_out_at i b x.2))))))

same_edge : (a b : Edge) → Decides (eqb a.from.0 b.from.0 && (eqb a.to.0 b.to.0 && (eqb (label_kind a.label) (label_kind b.label) && eqb (label_call a.label) (label_call b.label)))) (a ≡ b)
same_edge a b = (
  (λ e. let p = and_parts _ _ e in let q = and_parts _ _ p.1 in one_edge a b ((same_node a.from b.from).0 p.0) ((same_node a.to b.to).0 q.0) ((same_label a.label b.label).0 q.1)),
  (λ e. and_from _ _ ((same_node a.from b.from).1 (ap (λ (x : Edge). x.from) e)) (and_from _ _ ((same_node a.to b.to).1 (ap (λ (x : Edge). x.to) e)) ((same_label a.label b.label).1 (ap (λ (x : Edge). x.label) e)))),
)

has_edge : (es : List Edge) (e : Edge) → Found (Contains es e)
has_edge es e =
    same_facts
    (λ h. subst (λ (x : Edge). Contains es x) h.1.1 h.1.0)
    (λ c. (e, (c, refl)))
    (among es (λ (x : Edge). x ≡ e) (λ x. decided _ (same_edge x e)))

edge_of : (i : MethodInput) (e : Edge) → Found (IsEdgeOf i e)
edge_of i e =
    one_of (has_edge i.direct e)
    (same_facts (λ h. (h.1, h.0)) (λ h. (h.1, h.0)) (with_test _ (same_label e.label Thin) (heap_flow i e.from e.to)))

less : (m n : ℕ) → Decides (ltb m n) (m < n)
less m n = (ltb-true m n, lt-ltb m n)

edge_before : (a b : Edge) → Found (EdgeBefore a b)
edge_before a b =
    one_of (decided _ (less a.from.0 b.from.0))
    (with_test _ (same_node a.from b.from)
    (one_of (decided _ (less a.to.0 b.to.0))
    (with_test _ (same_node a.to b.to)
    (one_of (decided _ (less (label_kind a.label) (label_kind b.label)))
    (with_test _ (same_number (label_kind a.label) (label_kind b.label)) (decided _ (less (label_call a.label) (label_call b.label))))))))

mere : {A B : Type 0} → (A → B) → ∥ A ∥₁ → ∥ B ∥₁
mere f a = ∥∥₁_elim a ∥∥₁_prop (λ x. ∣ f x ∣₁)

-- how the graph of an input is
pub recovered : (i : MethodInput) (g : Graph) → ∥ IsGraphOf i g ∥₁ → IsGraphOf i g
recovered i g known = record {
  method = ∥∥₁_elim known (hlevel props) (λ h. h.method);
  first = ∥∥₁_elim known (hlevel props) (λ h. h.first);
  size = ∥∥₁_elim known (hlevel props) (λ h. h.size);
  edges = λ k es at.
      let place : ∥ IsOrderedListOf EdgeBefore es (λ e. IsEdgeOf i e × (e.to.0 ≡ i.first.0 + k)) ∥₁ = mere (λ h. h.edges k es at) known in
      record {
        each = λ j d lt. had (same_facts (λ h. (h.1, h.0)) (λ h. (h.1, h.0)) (with_test _ (same_number (get_or es j d).to.0 (i.first.0 + k)) (edge_of i (get_or es j d)))) (mere (λ h. h.each j d lt) place);
        order = λ j l d lt within. had (edge_before (get_or es j d) (get_or es l d)) (mere (λ h. h.order j l d lt within) place);
        whole = λ e is. had (has_edge es e) (mere (λ h. h.whole e is) place);
      };
}

-- Parts of which each test holds are parts of facts.
use Rattle.std.proofs.Common.{◌≡◌, ◌⊎◌, ◌<◌, ◌≤◌, ◌-◌, ◌+◌, ℕ, suc, List, Option, Some, None, length, get_or, ◌^◌, Bool, true, false, true≢false, ◌∙◌, refl, sym, ap, subst, inl, inr, arith}
use Rattle.std.specs.Prelude.{Contains, slice_get, All}
use Rattle.std.proofs.lemmas.List.Elements.{All-contains}
use Rattle.std.proofs.lemmas.Option.{slice_get-get_or}
use Rattle.slicer_ids.specs.declared.ids.NodeId.{NodeId}
use Rattle.slicer_ids.specs.declared.ids.MethodId.{MethodId}
use Rattle.slicer_ids.specs.declared.ids.CallId.{CallId}
use Rattle.slicer_ids.specs.declared.ids.SiteId.{SiteId}
use Rattle.slicer_ids.specs.declared.ids.Statement.{Statement}
use Rattle.dep_form.specs.declared.access.Access.{Access}
use Rattle.dep_form.specs.declared.node.Node.{Node}
use Rattle.dep_form.specs.declared.node.Node.TheVariants.{Return as ReturnNode}
use Rattle.dep_form.specs.declared.node.Edge.{Edge}
use Rattle.dep_form.specs.declared.node.Label.{Label}
use Rattle.dep_form.specs.declared.node.Label.TheVariants.{Thin, Base, Call, Return}
use Rattle.dep_form.specs.declared.input.MethodInput.{MethodInput}
use Rattle.dep_form.specs.Among.{IsAmong}
use Rattle.dep_form.specs.Firsts.{node_count}
use Rattle.dep_form.specs.Inputs.{IsEdge, IsEdgeOf, IsExitNode, IsNode, IsNodeOf, IsHeapFlow}
use Rattle.dep_form.specs.WithinFacts.{AreFacts, FollowOn, IsFit, IsCallerEnd, InOneMethod}
use Rattle.checked_facts.specs.Checks.{AreAllListed, EndFits, EndsFit, FitsHere, HasEdges, caller_end, caller_end_of}
use Rattle.checked_facts.specs.Parts.{IsOfNodes}
use Rattle.checked_facts.specs.Whole.{AreCounted, AreEdgesRight, AreExitsRight, AreFactsOf, AreInOrder, AreListsWithin}
use Rattle.checked_facts.specs.declared.facts.Parts.{Parts}

-- a number among those of an input is that of a node
node_there : (i : MethodInput) (n : NodeId) → IsAmong i.first.0 i.nodes n.0 → (k : Node) × IsNodeOf i n k
node_there i n among = (get_or i.nodes (n.0 - i.first.0) ReturnNode, (among.0, slice_get-get_or i.nodes (n.0 - i.first.0) ReturnNode (omega (arith, among.0, among.1))))

node_from : (i : MethodInput) (n : NodeId) (k : Node) → IsNodeOf i n k → (x : Node) × IsNodeOf i n x
node_from i n k is = (k, is)

-- both ends of a location's flow are nodes of the method
flow_ends : (i : MethodInput) (a b : NodeId) → IsHeapFlow i a b → ((k : Node) × IsNodeOf i a k) × ((k : Node) × IsNodeOf i b k)
flow_ends i a b (l, inl (p, q, put, get, on)) = (node_there i a (i.puts_among (p, a, l) put), node_there i b (i.gets_among (q, b, l) get))
flow_ends i a b (l, inr (inl (q, node, get))) = (node_from i a _ node, node_there i b (i.gets_among (q, b, l) get))
flow_ends i a b (l, inr (inr (p, put, node))) = (node_there i a (i.puts_among (p, a, l) put), node_from i b _ node)

abbrev is_thin : Label → Bool
is_thin Thin = true
is_thin l = false

thin_no_call : (c : CallId) → Thin ≡ Call c → ⊥
thin_no_call c same = true≢false (ap is_thin same)

thin_no_return : (c : CallId) → Thin ≡ Return c → ⊥
thin_no_return c same = true≢false (ap is_thin same)

module _ (inputs : List (Option MethodInput)) (edges : List Edge) (has : HasEdges inputs edges) where
  -- an edge is listed, or is a flow of values within one method
  listed_or_flow : (e : Edge) → IsEdge inputs e → Contains edges e ⊎ ((e.label ≡ Thin) × InOneMethod inputs e.from e.to)
  listed_or_flow e (m, i, at, inl c) = inl (has m.0 i e at c)
  listed_or_flow e (m, i, at, inr (flow, thin)) =
      let ends = flow_ends i e.from e.to flow in inr (thin, (m, ends.0.0, ends.1.0, (i, at, ends.0.1), (i, at, ends.1.1)))

  all_fit : (accesses : List (Statement × Access)) → All (FitsHere inputs accesses) edges → (e : Edge) → IsEdge inputs e → IsFit inputs accesses e e.label
  all_fit accesses all e is = elim (listed_or_flow e is) [
    | inl c ↦ All-contains (FitsHere inputs accesses) edges e all c
    | inr flow ↦ subst (λ (l : Label). IsFit inputs accesses e l) (sym flow.0) flow.1
  ]

  -- the call of an edge and its end there, as they are computed
  caller_of : (e : Edge) (c : CallId) (n : NodeId) → IsCallerEnd e c n → caller_end e ≡ Some (c, n)
  caller_of e c n (inl (label, at)) = subst (λ (z : Label × NodeId). caller_end_of z.0 z.1 e.to ≡ Some (c, n)) (λ t. (sym label t, at t)) refl
  caller_of e c n (inr (label, at)) = subst (λ (z : Label × NodeId). caller_end_of z.0 e.from z.1 ≡ Some (c, n)) (λ t. (sym label t, at t)) refl

  no_thin : (e : Edge) (c : CallId) (n : NodeId) → IsCallerEnd e c n → e.label ≡ Thin → ⊥
  no_thin e c n (inl end) thin = thin_no_call c (sym thin ∙ end.0)
  no_thin e c n (inr end) thin = thin_no_return c (sym thin ∙ end.0)

  one_caller : All (EndsFit inputs edges) edges → (c : CallId) (e g : Edge) (a b : NodeId) → IsEdge inputs e → IsEdge inputs g → IsCallerEnd e c a → IsCallerEnd g c b → InOneMethod inputs a b
  one_caller all c e g a b is_e is_g end_e end_g = elim (listed_or_flow e is_e) [
    | inr flow ↦ absurd (no_thin e c a end_e flow.0)
    | inl at ↦ elim (listed_or_flow g is_g) [
      | inr flow ↦ absurd (no_thin g c b end_g flow.0)
      | inl there ↦ All-contains (EndFits inputs c a) edges g (All-contains (EndsFit inputs edges) edges e all at c a (caller_of e c a end_e)) there b (caller_of g c b end_g)
    ]
  ]

listed : (inputs : List (Option MethodInput)) (exits : List NodeId) → AreAllListed inputs exits → (n : NodeId) (m : MethodId) → IsExitNode inputs n m → Contains exits n
listed inputs exits all n m (k, (i, at, (le, get)), exit, lt) =
    let same : i.first.0 + (n.0 - i.first.0) ≡ n.0 = omega (arith, le) in
    subst (λ (x : ℕ). Contains exits (record { 0 = x })) same (all m.0 lt i at (n.0 - i.first.0) k get exit)

pub facts_are : (p : Parts) (edges : List Edge) (nodes : ℕ) → HasEdges p.inputs edges → nodes ≡ node_count p.inputs → FollowOn p.inputs → AreCounted p nodes → AreInOrder p → AreListsWithin p nodes → AreExitsRight p → AreEdgesRight p edges → AreFactsOf p
facts_are p edges nodes has count follow c o w x e = record {
  root = c.root;
  with_root = c.with_root;
  follow_on = follow;
  few = subst (λ n. n ≤ 2 ^ 24) count c.nodes_few;
  few_methods = c.inputs_few;
  few_exits = c.exits_few;
  few_classes = c.classes_few;
  all_exits = record { each = x.each; order = x.order; whole = λ n is. listed p.inputs p.exits x.whole n is.0 is.1 };
  fit = all_fit p.inputs edges has p.accesses e.fit;
  one_caller = one_caller p.inputs edges has e.callers;
  classes_rise = o.of_classes;
  methods_rise = o.of_methods;
  lines_rise = o.of_lines;
  accesses_rise = o.of_accesses;
  values_rise = o.of_values;
  method_classes = w.of_methods;
  site_places = w.of_sites;
  line_classes = λ k d lt. (w.of_lines k d lt).0;
  line_statements = λ k d lt. (w.of_lines k d lt).1;
  access_places = λ k d lt. (w.of_accesses k d lt).0;
  access_nodes = λ k d lt. subst (λ n. All (IsOfNodes n) (get_or p.accesses k d).1.object) count (w.of_accesses k d lt).1;
  access_sites = λ k d lt. (w.of_accesses k d lt).2;
  value_places = λ k d lt. (w.of_values k d lt).0;
  value_sites = λ k d lt. (w.of_values k d lt).1;
}

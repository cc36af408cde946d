-- What is kept of a method is that of its graph.
use Rattle.std.proofs.Common.{◌≡◌, ◌<◌, ◌≤◌, ◌+◌, ◌-◌, ◌/◌, ℕ, List, [], length, get_or, Contains, Some, inl, inr, sym, subst, ap, ◌∙◌, arith}
use Rattle.std.specs.Prelude.{◌↔◌, slice_get}
use Rattle.std.specs.List.Sorted.{IsNonDecreasingBy}
use Rattle.std.proofs.lemmas.Option.{slice_get_within, slice_get-get_or, same_Some}
use Rattle.std.proofs.lemmas.List.Elements.{All-contains}
use Rattle.slicer_ids.specs.declared.ids.NodeId.{NodeId}
use Rattle.slicer_ids.specs.declared.ids.MethodId.{MethodId}
use Rattle.dep_form.specs.declared.facts.Facts.{Facts}
use Rattle.dep_form.specs.declared.graph.Graph.{Graph}
use Rattle.dep_form.specs.declared.input.MethodInput.{MethodInput}
use Rattle.dep_form.specs.declared.node.Edge.{Edge}
use Rattle.dep_form.specs.declared.node.Node.TheVariants.{HeapOut}
use Rattle.dep_form.specs.declared.node.Label.TheVariants.{Call, Return}
use Rattle.dep_form.specs.Inputs.{IsEdge, IsEdgeOf}
use Rattle.dep_form.specs.Phases.{edge}
use Rattle.dep_form.specs.Graphs.{IsGraphIn}
use Rattle.dep_form.specs.Summaries.{IsExitAt}
use Rattle.tabulate.specs.declared.method.Method.{Method}
use Rattle.tabulate.specs.declared.method.Argument.{Argument}
use Rattle.tabulate.specs.declared.method.Back.{Back}
use Rattle.tabulate.specs.Frames.{method_of, first, size, exits_before, exit_count, IsOf}
use Rattle.tabulate.specs.Methods.{IsMethodOf, HasEdge}
use Rattle.tabulate.proofs.Placing.{placed, of_input, size_at}

-- an edge of an input ends in one of its nodes
edge_end : (i : MethodInput) (e : Edge) → IsEdgeOf i e → (i.first.0 ≤ e.to.0) × (e.to.0 < i.first.0 + length i.nodes)
edge_end i e (inl c) = i.ends e c
edge_end i e (inr (h, l)) = elim h.1 [
  | inl both ↦ i.gets_among _ both.3
  | inr rest ↦ elim rest [
    | inl used ↦ i.gets_among _ used.2
    | inr left ↦ (left.2.0, omega (arith, left.2.0, slice_get_within i.nodes (e.to.0 - i.first.0) (HeapOut h.0) left.2.1))
  ]
]

module _ (p : Facts) (m : MethodId) (g : Graph) (is : IsGraphIn p.inputs m g) where
  abbrev i : MethodInput
  i = is.0

  -- the edges of the graph are those that end in the method's nodes
  pub edge_of : (e : Edge) → HasEdge g.incoming e → IsEdge p.inputs e × IsOf p e.to.0 m.0
  edge_of e (es, at, c) =
      let k : ℕ = at.0 in
      let there : slice_get g.incoming k ≡ Some es = slice_get-get_or g.incoming k es at.1 ∙ ap (λ x. Some x) at.2 in
      let h = All-contains (λ (x : Edge). IsEdgeOf i x × (x.to.0 ≡ i.first.0 + k)) es e (is.2.edges k es there).each c in
      ((m, i, is.1, h.0), of_input p e.to m.0 i is.1 (omega (arith, h.1)) (omega (arith, h.1, at.1, is.2.size)))

  pub has_edge : (e : Edge) → IsEdge p.inputs e → IsOf p e.to.0 m.0 → HasEdge g.incoming e
  has_edge e (m', i', at, h) o =
      let ends = edge_end i' e h in
      let here : m'.0 ≡ m.0 = sym (of_input p e.to m'.0 i' at ends.0 ends.1).1 ∙ o.1 in
      let same : i' ≡ i = same_Some i' i (same_Some (Some i') (Some i) (sym (subst (λ (n : ℕ). slice_get p.inputs n ≡ Some (Some i')) here at) ∙ is.1)) in
      let inner : IsEdgeOf i e = subst (λ (j : MethodInput). IsEdgeOf j e) same h in
      let ends = edge_end i e inner in
      let k : ℕ = e.to.0 - i.first.0 in
      let lt : k < length g.incoming = omega (arith, ends.0, ends.1, is.2.size) in
      let es : List Edge = get_or g.incoming k [] in
      (es, (k, lt, same_Some _ _ (sym (slice_get-get_or g.incoming k es lt) ∙ slice_get-get_or g.incoming k [] lt)), (is.2.edges k es (slice_get-get_or g.incoming k [] lt)).whole e (inner, omega (arith, ends.0)))

  -- the place of a node's edges
  pub node_within : (n : NodeId) → IsOf p n.0 m.0 → (g.first.0 ≤ n.0) × (n.0 < g.first.0 + length g.incoming)
  node_within n o =
      let h = placed p n.0 o.0 in
      let start : i.first.0 ≡ first p m.0 = (p.follow_on m.0 i is.1).1 in
      let same : g.first.0 ≡ i.first.0 = ap (λ (x : NodeId). x.0) is.2.first in
      (omega (arith, h.above, start, same, ap (first p) o.1), omega (arith, h.below, start, same, ap (first p) o.1, ap (size p) o.1, is.2.size, size_at p m.0 (Some i) is.1))

  -- .. has those that end in it
  pub edges_at : (n : NodeId) (es : List Edge) → IsOf p n.0 m.0 → slice_get g.incoming (n.0 - g.first.0) ≡ Some es → (e : Edge) → Contains es e ↔ (IsEdge p.inputs e × (e.to ≡ n))
  edges_at n es o at e = (to, from)
    where
      place : n.0 ≡ i.first.0 + (n.0 - g.first.0)
      place = omega (arith, (node_within n o).0, ap (λ (x : NodeId). x.0) is.2.first)

      to : Contains es e → IsEdge p.inputs e × (e.to ≡ n)
      to c =
          let h = All-contains (λ (x : Edge). IsEdgeOf i x × (x.to.0 ≡ i.first.0 + (n.0 - g.first.0))) es e (is.2.edges (n.0 - g.first.0) es at).each c in
          ((m, i, is.1, h.0), ap (λ (j : ℕ). record { 0 = j }) (h.1 ∙ sym place))

      from : IsEdge p.inputs e × (e.to ≡ n) → Contains es e
      from ((m', i', input, h), is_to) =
          let ends = edge_end i' e h in
          let to_is : e.to.0 ≡ n.0 = ap (λ (x : NodeId). x.0) is_to in
          let here : m'.0 ≡ m.0 = sym (of_input p e.to m'.0 i' input ends.0 ends.1).1 ∙ ap (method_of p) to_is ∙ o.1 in
          let same : i' ≡ i = same_Some i' i (same_Some (Some i') (Some i) (sym (subst (λ (j : ℕ). slice_get p.inputs j ≡ Some (Some i')) here input) ∙ is.1)) in
          let inner : IsEdgeOf i e = subst (λ (j : MethodInput). IsEdgeOf j e) same h in
          (is.2.edges (n.0 - g.first.0) es at).whole e (inner, to_is ∙ place)

  module _ (x : Method) (id_is : x.id ≡ m) (first_is : x.first ≡ g.first) (size_is : x.size ≡ length g.incoming)
      (exit_is : x.first_exit ≡ exits_before p g.first.0) (count_is : x.exit_count ≡ exits_before p (g.first.0 + length g.incoming) - exits_before p g.first.0) (width_is : x.width ≡ (x.exit_count + 63) / 64)
      (arguments : (a : Argument) → Contains x.arguments.items a ↔ HasEdge g.incoming (edge a.from (Call a.call) a.formal)) (by_call : IsNonDecreasingBy (λ (a : Argument). a.call.0) x.arguments.items)
      (backs : (b : Back) → Contains x.returns.items b ↔ ((e : NodeId) × IsExitAt p b.exit e × HasEdge g.incoming (edge e (Return b.call) b.to))) (backs_by_call : IsNonDecreasingBy (λ (b : Back). b.call.0) x.returns.items) where
    start : g.first.0 ≡ first p m.0
    start = ap (λ (n : NodeId). n.0) is.2.first ∙ (p.follow_on m.0 i is.1).1

    tall : size p m.0 ≡ length g.incoming
    tall = size_at p m.0 (Some i) is.1 ∙ sym is.2.size

    count_here : x.exit_count ≡ exit_count p m.0
    count_here = omega (arith, count_is, ap (exits_before p) start, ap (λ n. exits_before p (n + length g.incoming)) start, ap (λ n. exits_before p (first p m.0 + n)) tall)

    kept_there : IsMethodOf p (record x { id = m })
    kept_there = record {
      there = slice_get_within p.inputs m.0 (Some i) is.1;
      first_is = ap (λ (n : NodeId). n.0) first_is ∙ start;
      size_is = size_is ∙ sym tall;
      width_is = omega (arith, width_is, count_here);
      exit_is = exit_is ∙ ap (exits_before p) start;
      count_is = count_here;
      arguments = record {
        each = λ a c. edge_of (edge a.from (Call a.call) a.formal) ((arguments a).0 c);
        whole = λ a h. (arguments a).1 (has_edge (edge a.from (Call a.call) a.formal) h.0 h.1);
        by_call = by_call;
      };
      backs = record {
        each = λ b c. let h = (backs b).0 c in let r = edge_of (edge h.0 (Return b.call) b.to) h.2 in (h.0, h.1, r.0, r.1);
        whole = λ b h. (backs b).1 (h.0, h.1, has_edge (edge h.0 (Return b.call) b.to) h.2 h.3);
        by_call = backs_by_call;
      };
    }

    pub kept : IsMethodOf p x
    kept = subst (λ (n : MethodId). IsMethodOf p (record x { id = n })) (sym id_is) kept_there

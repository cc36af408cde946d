-- The edges that were found are those that the input describes.
use Rattle.std.proofs.Common.{◌≡◌, List, Contains, inl, inr, refl, sym, ap, subst}
use Rattle.std.specs.Prelude.{◌↔◌}
use Rattle.worklists.specs.Growth.{Grows, FromOne}
use Rattle.worklists.proofs.Growing.{Grows-kept}
use Rattle.slicer_ids.specs.declared.ids.NodeId.{NodeId}
use Rattle.slicer_ids.specs.declared.ids.LocId.{LocId}
use Rattle.dep_form.specs.declared.node.Edge.{Edge}
use Rattle.dep_form.specs.declared.node.Node.TheVariants.{HeapOut}
use Rattle.dep_form.specs.declared.node.Label.{Label}
use Rattle.dep_form.specs.declared.node.Label.TheVariants.{Thin}
use Rattle.dep_form.specs.declared.input.MethodInput.{MethodInput}
use Rattle.dep_form.specs.Inputs.{IsEdgeOf, IsHeapFlow, IsNodeOf}
use Rattle.method_graph.specs.declared.locations.Access.{Access}
use Rattle.method_graph.specs.declared.edges.Ending.{Ending}
use Rattle.method_graph.specs.declared.heap.Heap.{Heap}
use Rattle.method_graph.specs.Flows.{HasWay}
use Rattle.method_graph.specs.Accesses.{access_of}
use Rattle.method_graph.specs.Edges.{edge_of, ending_of, flows_to}
use Rattle.method_graph.specs.Heaps.{IsHeapOf, Meet, HeapFlows}

same_flow : (x : Ending) → x.label ≡ Thin → x ≡ flows_to x.from x.to
same_flow x e = ap (λ (l : Label). record { to = x.to; from = x.from; label = l }) e

module _ (i : MethodInput) (h : Heap) (is : IsHeapOf i h) where
  -- a flow from the one node to the other, for an edge between them
  at_ends : (x : Ending) (a b : NodeId) → x ≡ flows_to a b → IsHeapFlow i a b → IsHeapFlow i x.from x.to × (x.label ≡ Thin)
  at_ends x a b e f = (subst (λ (y : Ending). IsHeapFlow i y.from y.to) (sym e) f, ap (λ (y : Ending). y.label) e)

  by_way : (s t : Access) → Meet h.puts.items h.gets.items s t → HasWay h.ways.width h.ways.words.items s.point t.point → IsHeapFlow i s.node t.node
  by_way s t (cs, ct, l) way =
      let y = (is.puts s).0 cs in
      let z = (is.gets t).0 ct in
      let there : Contains i.puts (s.point, s.node, s.location) = subst (λ (w : Access). Contains i.puts (w.point, w.node, w.location)) (sym y.2) y.1 in
      let here : Contains i.gets (t.point, t.node, t.location) = subst (λ (w : Access). Contains i.gets (w.point, w.node, w.location)) (sym z.2) z.1 in
      let leads = (is.ways s.point t.point (i.puts_within _ there) (i.gets_within _ here)).0 way in
      (s.location, inl (s.point, t.point, there, subst (λ (k : LocId). Contains i.gets (t.point, t.node, k)) (sym l) here, leads))

  from_entry : (s t : Access) → Meet h.entries.items h.gets.items s t → IsHeapFlow i s.node t.node
  from_entry s t (cs, ct, l) =
      let z = (is.gets t).0 ct in
      let here : Contains i.gets (t.point, t.node, t.location) = subst (λ (w : Access). Contains i.gets (w.point, w.node, w.location)) (sym z.2) z.1 in
      (s.location, inr (inl (t.point, ((is.entries s).0 cs).0, subst (λ (k : LocId). Contains i.gets (t.point, t.node, k)) (sym l) here)))

  to_exit : (s t : Access) → Meet h.puts.items h.exits.items s t → IsHeapFlow i s.node t.node
  to_exit s t (cs, ct, l) =
      let y = (is.puts s).0 cs in
      let there : Contains i.puts (s.point, s.node, s.location) = subst (λ (w : Access). Contains i.puts (w.point, w.node, w.location)) (sym y.2) y.1 in
      (s.location, inr (inr (s.point, there, subst (λ (k : LocId). IsNodeOf i t.node (HeapOut k)) (sym l) ((is.exits t).0 ct).0)))

  -- what was found is a flow
  pub flows_are : (x : Ending) → HeapFlows h x → IsHeapFlow i x.from x.to × (x.label ≡ Thin)
  flows_are x (inl (s, t, m, way, e)) = at_ends x s.node t.node e (by_way s t m way)
  flows_are x (inr (inl (s, t, m, e))) = at_ends x s.node t.node e (from_entry s t m)
  flows_are x (inr (inr (s, t, m, e))) = at_ends x s.node t.node e (to_exit s t m)

  found : (x : Ending) (a b : NodeId) → x ≡ flows_to a b → IsHeapFlow i a b → HeapFlows h x
  found x a b e (l, inl (p, q, cp, cq, leads)) =
      let s : Access = access_of (p, a, l) in
      let t : Access = access_of (q, b, l) in
      inl (s, t, ((is.puts s).1 ((p, a, l), cp, refl), (is.gets t).1 ((q, b, l), cq, refl), refl), (is.ways p q (i.puts_within _ cp) (i.gets_within _ cq)).1 leads, e)
  found x a b e (l, inr (inl (q, n, cq))) =
      let s : Access = access_of (0, a, l) in
      let t : Access = access_of (q, b, l) in
      inr (inl (s, t, ((is.entries s).1 (n, refl), (is.gets t).1 ((q, b, l), cq, refl), refl), e))
  found x a b e (l, inr (inr (p, cp, n))) =
      let s : Access = access_of (p, a, l) in
      let t : Access = access_of (0, b, l) in
      inr (inr (s, t, ((is.puts s).1 ((p, a, l), cp, refl), (is.exits t).1 (n, refl), refl), e))

  -- the edges that the input lists, and the flows, are all that it describes
  pub edges_are : (direct all : List Ending) → ((x : Ending) → Contains direct x ↔ FromOne (λ (e : Edge) (y : Ending). y ≡ ending_of e) i.direct x) → Grows direct all (HeapFlows h)
      → (x : Ending) → Contains all x ↔ IsEdgeOf i (edge_of x)
  edges_are direct all listed g x = (
    λ c. elim (g.only x c) [
      | inl o ↦ let f = (listed x).0 o in inl (subst (λ (e : Edge). Contains i.direct e) (sym (ap edge_of f.2)) f.1)
      | inr f ↦ inr (flows_are x f)
    ],
    λ e. elim e [
      | inl d ↦ Grows-kept direct all (HeapFlows h) g x ((listed x).1 (edge_of x, d, refl))
      | inr f ↦ g.all x (found x x.from x.to (same_flow x f.1) f.0)
    ],
  )

-- The edges of each node are those that the input describes.
use Rattle.std.proofs.Common.{◌≡◌, ◌<◌, ◌+◌, ℕ, List, [], ◌∷◌, ◌++◌, map, length, length-append, get_or, Contains, Some, AllPairs, inl, inr, refl, sym, ap, subst, ◌∙◌, arith}
use Rattle.std.specs.Prelude.{slice_get, ◌↔◌}
use Rattle.std.proofs.lemmas.Bool.{cases_lt}
use Rattle.std.proofs.lemmas.List.{length-map, get_or-map, get_or_push}
use Rattle.std.proofs.lemmas.List.Elements.{Contains-get_or}
use Rattle.std.proofs.Math.ListN.{get_or-append}
use Rattle.std.proofs.lemmas.Option.{slice_get_within, slice_get-get_or, get_or_from_slice_get}
use Rattle.slicer_ids.specs.Sets.{IsOrderedListOf}
use Rattle.dep_form.specs.declared.node.Edge.{Edge}
use Rattle.dep_form.specs.declared.input.MethodInput.{MethodInput}
use Rattle.dep_form.specs.Graphs.{EdgeBefore}
use Rattle.dep_form.specs.Inputs.{IsEdgeOf}
use Rattle.method_graph.specs.declared.edges.Ending.{Ending}
use Rattle.method_graph.specs.Edges.{EndingBefore, edge_of, ending_of, AreIncoming}

same_order : (a b : Ending) → a.to.0 ≡ b.to.0 → EndingBefore a b → EdgeBefore (edge_of a) (edge_of b)
same_order a b e (inl lt) = absurd (omega (arith, e))
same_order a b e (inr (to, inl lt)) = inl lt
same_order a b e (inr (to, inr (from, label))) = inr (from, inr (to, label))

mapped : (run : List Ending) (k : ℕ) (e : Edge) → k < length (map edge_of run) → (k < length run) × (get_or (map edge_of run) k e ≡ edge_of (get_or run k (ending_of e)))
mapped run k e lt = let w : k < length run = omega (arith, lt, length-map run edge_of) in (w, get_or-map edge_of run k (ending_of e) e w)

-- no node yet
pub incoming_none : (edges : List Ending) (first : ℕ) → AreIncoming edges first 0 []
incoming_none edges first = record { size = refl; each = λ k es e. absurd (omega (arith, slice_get_within [] k es e)) }

-- one node more
pub incoming_more : (edges run : List Ending) (first k : ℕ) (lists : List (List Edge)) (list : List Edge) → AreIncoming edges first k lists → list ≡ map edge_of run → AllPairs EndingBefore run
    → ((x : Ending) → Contains run x ↔ (Contains edges x × (x.to.0 ≡ first + k))) → AreIncoming edges first (k + 1) (lists ++ list ∷ [])
incoming_more edges run first k lists list before is order members = record {
  size = length-append lists (list ∷ []) ∙ ap (λ n. n + 1) before.size;
  each = λ j es at. elim (cases_lt j k) [
    | inl lt ↦ before.each j es (slice_get-get_or lists j es (omega (arith, lt, before.size)) ∙ ap (λ (y : List Edge). Some y) (sym (get_or-append lists (list ∷ []) es j (omega (arith, lt, before.size))) ∙ get_or_from_slice_get (lists ++ list ∷ []) j es es at))
    | inr ge ↦
        let w = slice_get_within (lists ++ list ∷ []) j es at in
        let here : j ≡ length lists = omega (arith, ge, w, before.size, length-append lists (list ∷ [])) in
        let same : es ≡ list = sym (get_or_from_slice_get (lists ++ list ∷ []) j es es at) ∙ get_or_push lists list es j (sym here) in
        let j_is : j ≡ k = here ∙ before.size in
        (run, same ∙ is, order, subst (λ (n : ℕ). (x : Ending) → Contains run x ↔ (Contains edges x × (x.to.0 ≡ first + n))) (sym j_is) members)
  ];
}

-- the edges of each node are those of the input that end there
pub lists_are : (i : MethodInput) (edges : List Ending) (nodes : ℕ) (lists : List (List Edge)) → ((x : Ending) → Contains edges x ↔ IsEdgeOf i (edge_of x)) → AreIncoming edges i.first.0 nodes lists
    → (k : ℕ) (es : List Edge) → slice_get lists k ≡ Some es → IsOrderedListOf EdgeBefore es (λ e. IsEdgeOf i e × (e.to.0 ≡ i.first.0 + k))
lists_are i edges nodes lists are incoming k es at =
    let (run, is, order, members) = incoming.each k es at in
    subst (λ (ys : List Edge). IsOrderedListOf EdgeBefore ys (λ e. IsEdgeOf i e × (e.to.0 ≡ i.first.0 + k))) (sym is) (record {
      each = λ j d lt.
          let m = mapped run j d lt in
          let x = get_or run j (ending_of d) in
          let c = (members x).0 (Contains-get_or run j (ending_of d) m.0) in
          subst (λ (e : Edge). IsEdgeOf i e × (e.to.0 ≡ i.first.0 + k)) (sym m.1) ((are x).0 c.0, c.1);
      order = λ j l d lt inside.
          let b = mapped run l d inside in
          let a = mapped run j d (omega arith) in
          let x = get_or run j (ending_of d) in
          let y = get_or run l (ending_of d) in
          let cx = (members x).0 (Contains-get_or run j (ending_of d) a.0) in
          let cy = (members y).0 (Contains-get_or run l (ending_of d) b.0) in
          subst (λ (e : Edge). EdgeBefore e (get_or (map edge_of run) l d)) (sym a.1) (subst (λ (e : Edge). EdgeBefore (edge_of x) e) (sym b.1) (same_order x y (cx.1 ∙ sym cy.1) (order j l (ending_of d) lt b.0)));
      whole = λ e h.
          let c = (members (ending_of e)).1 ((are (ending_of e)).1 h.0, h.1) in
          (c.0, omega (arith, c.1, length-map run edge_of), get_or-map edge_of run c.0 (ending_of e) e c.1 ∙ ap edge_of c.2);
    })

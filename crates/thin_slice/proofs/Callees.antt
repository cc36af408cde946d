-- The arguments of a call, by the row of an exit and by the paths of the graph.
use Rattle.std.proofs.Common.{◌≡◌, ◌<◌, ◌≤◌, ◌+◌, ◌*◌, ◌-◌, ◌/◌, ◌%◌, ℕ, zero, suc, Bool, false, true, cond, List, [], ◌∷◌, length, get_or, Option, Some, Contains, refl, sym, ap, subst, ◌∙◌, inl, inr, arith}
use Rattle.std.specs.Prelude.{slice_get, count_by, All, AllPairs}
use Rattle.std.specs.List.Sorted.{IsPartitionedBy, IsNonDecreasingBy, IsPartitionPoint}
use Rattle.std.proofs.lemmas.Bool.{cases_lt}
use Rattle.std.proofs.lemmas.List.Sums.{sum_by-cons}
use Rattle.std.proofs.lemmas.List.Elements.{All-contains, Contains-get_or}
use Rattle.std.proofs.lemmas.Option.{slice_get-get_or, slice_get_within, get_or_from_slice_get, same_Some}
use Rattle.slicer_ids.specs.declared.ids.NodeId.{NodeId}
use Rattle.slicer_ids.specs.declared.ids.MethodId.{MethodId}
use Rattle.slicer_ids.specs.declared.ids.CallId.{CallId}
use Rattle.slicer_ids.specs.declared.ids.ExitId.{ExitId}
use Rattle.slicer_ids.specs.declared.ids.Mode.{Mode}
use Rattle.dep_form.specs.declared.input.MethodInput.{MethodInput}
use Rattle.dep_form.specs.declared.node.Node.{Node}
use Rattle.dep_form.specs.declared.node.Node.TheVariants.{Thrown, HeapOut}
use Rattle.dep_form.specs.declared.node.Edge.{Edge}
use Rattle.dep_form.specs.declared.node.Label.TheVariants.{Thin, Call, Return}
use Rattle.dep_form.specs.declared.graph.Graph.{Graph}
use Rattle.dep_form.specs.declared.facts.Facts.{Facts}
use Rattle.dep_form.specs.Firsts.{node_count}
use Rattle.dep_form.specs.Nodes.{is_formal}
use Rattle.dep_form.specs.Graphs.{IsGraphIn, EdgeBefore}
use Rattle.dep_form.specs.Inputs.{IsEdge, IsEdgeOf, IsNodeOf, IsInputOf, formal_count}
use Rattle.dep_form.specs.LookUps.{IsMethodOfNode, HasFormals}
use Rattle.dep_form.specs.Phases.{edge, Level}
use Rattle.dep_form.specs.Slices.{ModeEdges}
use Rattle.dep_form.specs.Summaries.{IsExitAt, IsMask, IsWidthOf, Summary}
use Rattle.dep_form.proofs.Levels.{closes, listed}
use Rattle.dep_form.proofs.OneMethod.{one_place, is_within, summary_of_formals}
use Rattle.worklists.proofs.Growing.{FromBelow}
use Rattle.thin_slice.specs.Steps.{AreInto, PassesBy, StartsCall, StartsBefore}
use Rattle.thin_slice.specs.Over.{AreCallers, ByWord, ByPart, ByRow, CallsInto, IsCalleeAt, node_at}
use Rattle.thin_slice.proofs.Marking.{same_node}
use Rattle.thin_slice.proofs.Located.{input_there, within_count}
use Rattle.thin_slice.proofs.Ends.{Has, around, level_in, raw_call, mode_call, call_ends, start_below}

-- a node that passes a test counts among those that come first
first_counts : {X : Type 0} (p : X → Bool) (xs : List X) (j : ℕ) (d : X) → IsPartitionedBy p xs → j < length xs → p (get_or xs j d) ≡ true → j < count_by p xs
first_counts p [] j d part lt h = absurd (omega (arith, lt))
first_counts p (x ∷ xs) zero d part lt h =
    let yes : ◌≡◌ {A = ℕ} (cond (p x) 1 0) 1 = rw h refl in
    omega (arith, sum_by-cons (λ y. cond (p y) 1 0) x xs, yes)
first_counts p (x ∷ xs) (suc j) d part lt h =
    let yes : ◌≡◌ {A = ℕ} (cond (p x) 1 0) 1 = rw (part zero (suc j) d (omega arith) lt h) refl in
    let rest = first_counts p xs j d (λ i k y le below t. part (suc i) (suc k) y (omega (arith, le)) (omega (arith, below)) t) (omega (arith, lt)) h in
    omega (arith, sum_by-cons (λ y. cond (p y) 1 0) x xs, yes, rest)

-- the input of a method is one
pub one_input : (inputs : List (Option MethodInput)) (m : MethodId) (i j : MethodInput) → IsInputOf inputs m i → IsInputOf inputs m j → i ≡ j
one_input inputs m i j h k = same_Some i j (same_Some (Some i) (Some j) (sym h ∙ k))

pub has_node : (inputs : List (Option MethodInput)) (n : NodeId) (m : MethodId) (i : MethodInput) → IsMethodOfNode inputs n m → IsInputOf inputs m i → Has i n
has_node inputs n m i of at = let r = input_there inputs n m of in subst (λ j. Has j n) (one_input inputs m r.0 i r.1 at) (r.2, r.3)

-- an edge ends in its own input
pub end_in : (i : MethodInput) (e : Edge) → IsEdgeOf i e → Has i e.to
end_in i e (inl c) = i.ends e c
end_in i e (inr ((l, inl h), is)) = i.gets_among (h.1, e.to, l) h.3
end_in i e (inr ((l, inr (inl h)), is)) = i.gets_among (h.0, e.to, l) h.2
end_in i e (inr ((l, inr (inr h)), is)) = (h.2.0, is_within i e.to (HeapOut l) h.2)

-- the list at a node of the graph has the edges that end there
module _ (f : Facts) (m : MethodId) (n : NodeId) (g : Graph) (of : IsMethodOfNode f.inputs n m) (is : IsGraphIn f.inputs m g) (es : List Edge) (at : slice_get g.incoming (n.0 - g.first.0) ≡ Some es) where
  ends_here : (e : Edge) → Contains es e → IsEdge f.inputs e × (e.to ≡ n)
  ends_here e c =
      let i = is.0 in
      let has = has_node f.inputs n m i of is.1 in
      let h = All-contains (λ (x : Edge). IsEdgeOf i x × (x.to.0 ≡ i.first.0 + (n.0 - g.first.0))) es e (is.2.edges (n.0 - g.first.0) es at).each c in
      ((m, i, is.1, h.0), same_node e.to n (omega (arith, h.1, has.0, ap (λ (x : NodeId). x.0) is.2.first)))

  has_all : (e : Edge) → IsEdge f.inputs e → e.to ≡ n → Contains es e
  has_all e h to =
      let i = is.0 in
      let has = has_node f.inputs n m i of is.1 in
      let end : Has h.1 n = subst (Has h.1) to (end_in h.1 e h.3) in
      let place : h.0.0 ≡ m.0 = one_place f n.0 h.0.0 m.0 h.1 i h.2 is.1 end.0 end.1 has.0 has.1 in
      let there : IsInputOf f.inputs m h.1 = subst (λ k. slice_get f.inputs k ≡ Some (Some h.1)) place h.2 in
      let one : h.1 ≡ i = one_input f.inputs m h.1 i there is.1 in
      (is.2.edges (n.0 - g.first.0) es at).whole e (subst (λ j. IsEdgeOf j e) one h.3, omega (arith, ap (λ (x : NodeId). x.0) to, has.0, ap (λ (x : NodeId). x.0) is.2.first))

  pub are_into : AreInto f.inputs n es
  are_into e = (λ c. ends_here e c, λ h. has_all e h.0 h.1)

module _ (f : Facts) (mode : Mode) (e : ExitId) (x : NodeId) (c : CallId) (m : MethodId) (g : Graph) (formals : ℕ) (at : IsExitAt f e x) (of : IsMethodOfNode f.inputs x m) (is : IsGraphIn f.inputs m g) (count : HasFormals f m formals) where
  kind_at : (i : MethodInput) (n : NodeId) → Has i n → (k : Node) × IsNodeOf i n k
  kind_at i n has = (get_or i.nodes (n.0 - i.first.0) Thrown, (has.0, slice_get-get_or i.nodes (n.0 - i.first.0) Thrown (omega (arith, has.0, has.1))))

  counted : formals ≡ formal_count is.0
  counted = count.2 ∙ ap formal_count (one_input f.inputs m count.0 is.0 count.1 is.1)

  node_is : (n : NodeId) (j : ℕ) → n.0 ≡ is.0.first.0 + j → n ≡ node_at g j
  node_is n j e = same_node n (node_at g j) (omega (arith, e, ap (λ (x : NodeId). x.0) is.2.first))

  by_path : (q b : NodeId) → ModeEdges f.inputs mode (edge q (Call c) b) → Level (ModeEdges f.inputs mode) b x → ByRow f mode e c g formals q
  unfolding kind_at
  by_path q b call level =
      let i = is.0 in
      let has = has_node f.inputs x m i of is.1 in
      let in_b : Has i b = level_in f mode m i is.1 level has in
      let raw = raw_call f.inputs mode q b c call in
      let j = b.0 - i.first.0 in
      let formal : is_formal (get_or i.nodes j Thrown) ≡ true = call_ends f q b c m i Thrown is.1 raw in_b in
      let lt : j < formal_count i = first_counts is_formal i.nodes j Thrown i.formals_first (omega (arith, in_b.0, in_b.1)) formal in
      let kx = kind_at i x has in
      let kb = kind_at i b in_b in
      let number : b.0 ≡ i.first.0 + j = omega (arith, in_b.0) in
      let path = listed (ModeEdges f.inputs mode) level in
      let s : Summary f mode e j = (m, i, x, b, kx.0, at, is.1, kx.1, (number, kb.0, kb.1, formal), (path.0, path.1, path.2 false [])) in
      (j, omega (arith, lt, counted), s, subst (λ n. IsEdge f.inputs (edge q (Call c) n)) (node_is b j number) raw)

  by_bit : (q : NodeId) (j : ℕ) → Summary f mode e j → IsEdge f.inputs (edge q (Call c) (node_at g j)) → PassesBy (ModeEdges f.inputs mode) c x q
  by_bit q j s call =
      let i = is.0 in
      let has = has_node f.inputs x m i of is.1 in
      let kx = kind_at i x has in
      let r = summary_of_formals f mode e j x m i kx.0 at is.1 kx.1 s in
      let E = ModeEdges f.inputs mode in
      let level : Level E r.0 x = closes E r.2.0 [] r.0 x r.2.1 r.2.2 in
      (node_at g j, mode_call f.inputs mode q (node_at g j) c call, subst (λ n. Level E n x) (node_is r.0 j r.1.0) level)

  pub passes_by_row : (q : NodeId) → PassesBy (ModeEdges f.inputs mode) c x q → ByRow f mode e c g formals q
  passes_by_row q p = by_path q p.0 p.1 p.2

  pub row_passes : (q : NodeId) → ByRow f mode e c g formals q → PassesBy (ModeEdges f.inputs mode) c x q
  row_passes q p = by_bit q p.0 p.2 p.3

-- edges in order rise by where they start
by_start : (a b : Edge) → EdgeBefore a b → a.from.0 ≤ b.from.0
by_start a b (inl lt) = omega (arith, lt)
by_start a b (inr h) = omega (arith, ap (λ (n : NodeId). n.0) h.0)

pub edges_rise : (es : List Edge) → AllPairs EdgeBefore es → IsNonDecreasingBy (λ (e : Edge). e.from.0) es
edges_rise es order i j d le lt = elim (cases_lt i j) [
  | inl below ↦ by_start (get_or es i d) (get_or es j d) (order i j d below lt)
  | inr ge ↦ let same : i ≡ j = omega (arith, le, ge) in omega (arith, ap (λ k. (get_or es k d).from.0) same)
]

-- .. so that fewer start before an earlier node
pub points_rise : (es : List Edge) (first end low high : ℕ) → first ≤ end → low ≤ length es → IsPartitionPoint (λ (e : Edge). e.from.0 < first) (λ (e : Edge). first ≤ e.from.0) es low
    → IsPartitionPoint (λ (e : Edge). e.from.0 < end) (λ (e : Edge). end ≤ e.from.0) es high → low ≤ high
points_rise es first end low high le within p q = elim (cases_lt high low) [
  | inl lt ↦ let d : Edge = record { from = record { 0 = 0 }; label = Thin; to = record { 0 = 0 } } in absurd (omega (arith, p.0 high d (omega arith) lt, q.1 high d (omega arith) (omega (arith, lt, within)), le))
  | inr ge ↦ ge
]

-- the starts of the edges of a call among those that end in a node
module _ (inputs : List (Option MethodInput)) (n : NodeId) (c : CallId) (es : List Edge) (into : AreInto inputs n es) where
  to_call : (e : Edge) → Contains es e → (q : NodeId) → StartsCall c e q → CallsInto inputs c n q
  to_call e there q h =
      let in_e = (into e).0 there in
      subst (λ (x : NodeId). IsEdge inputs (edge x (Call c) n)) (sym h.1) (subst (λ l. IsEdge inputs (edge e.from l n)) h.0 (subst (λ (x : NodeId). IsEdge inputs (edge e.from e.label x)) in_e.1 in_e.0))

  pub to_calls : (low high : ℕ) (q : NodeId) → StartsBefore c low es high q → CallsInto inputs c n q
  to_calls low high q (k, lt, (from, e, at, h)) = to_call e (k, slice_get_within es k e at, get_or_from_slice_get es k e e at) q h

  pub from_calls : (first end low high : ℕ) → ((q b : NodeId) → IsEdge inputs (edge q (Call c) b) → (first ≤ q.0) × (q.0 < end)) → IsPartitionPoint (λ (e : Edge). e.from.0 < first) (λ (e : Edge). first ≤ e.from.0) es low
      → IsPartitionPoint (λ (e : Edge). e.from.0 < end) (λ (e : Edge). end ≤ e.from.0) es high → (q : NodeId) → CallsInto inputs c n q → StartsBefore c low es high q
  from_calls first end low high callers p r q h =
      let e = edge q (Call c) n in
      let there = (into e).1 (h, refl) in
      let k = there.0 in
      let range = callers q n h in
      let is : (get_or es k e).from.0 ≡ q.0 = ap (λ (x : Edge). x.from.0) there.2 in
      let from : low ≤ k = elim (cases_lt k low) [ inl lt ↦ absurd (omega (arith, p.0 k e (omega arith) lt, is, range.0)) | inr ge ↦ ge ] in
      let below : k < high = elim (cases_lt k high) [ inl lt ↦ lt | inr ge ↦ absurd (omega (arith, r.1 k e ge there.1, is, range.1)) ] in
      (k, below, (from, e, slice_get-get_or es k e there.1 ∙ ap (λ (x : Edge). Some x) there.2, (refl, refl)))

-- the callers of a call are the nodes of one method
pub callers_are : (f : Facts) (c : CallId) (x n : NodeId) (m : MethodId) (i : MethodInput) (end : ℕ) → IsEdge f.inputs (edge x (Return c) n) → IsMethodOfNode f.inputs n m → IsInputOf f.inputs m i → end ≡ i.first.0 + length i.nodes
    → AreCallers f (record { call = c; first = i.first.0; end = end })
callers_are f c x n m i end back of at is = (omega (arith, is), λ q b call. let has = around f q b x n c m i at call back (has_node f.inputs n m i of at) in (has.0, omega (arith, has.1, is)))

pub end_below : (f : Facts) (e : Edge) → IsEdge f.inputs e → e.to.0 < node_count f.inputs
end_below f e h = let has = end_in h.1 e h.3 in within_count f e.to.0 h.0.0 h.1 h.2 has.1

-- what starts edges into a node is a node
pub starts_below : (f : Facts) (n : NodeId) (es : List Edge) → AreInto f.inputs n es → All (λ (e : Edge). e.from.0 < node_count f.inputs) es
starts_below f n es into k d lt = start_below f (get_or es k d) ((into (get_or es k d)).0 (Contains-get_or es k d lt)).0

-- the words of a row
module _ (f : Facts) (mode : Mode) (e : ExitId) (c : CallId) (g : Graph) (formals : ℕ) where
  pub word_is_part : (k word : ℕ) → IsMask f mode e k word → (q : NodeId) → ByWord f c g formals k word q → ByPart f mode e c g formals k q
  word_is_part k word mask q h = (h.0, h.1, (mask h.0 h.1).0 h.2.0, h.2.1, h.2.2)

  pub part_is_word : (k word : ℕ) → IsMask f mode e k word → (q : NodeId) → ByPart f mode e c g formals k q → ByWord f c g formals k word q
  part_is_word k word mask q h = (h.0, h.1, ((mask h.0 h.1).1 h.2, h.3, h.4))

  pub parts_are_row : (words : ℕ) → (q : NodeId) → FromBelow (ByPart f mode e c g formals) words q → ByRow f mode e c g formals q
  parts_are_row words q h = (64 * h.0 + h.2.0, h.2.3, h.2.2, h.2.4)

  pub row_is_parts : (words : ℕ) → words ≡ (formals + 63) / 64 → (q : NodeId) → ByRow f mode e c g formals q → FromBelow (ByPart f mode e c g formals) words q
  row_is_parts words is q h =
      let number : h.0 ≡ 64 * (h.0 / 64) + h.0 % 64 = omega arith in
      (h.0 / 64, omega (arith, h.1), (h.0 % 64, omega arith, subst (Summary f mode e) number h.2, omega (arith, h.1), subst (λ j. CallsInto f.inputs c (node_at g j) q) number h.3))

-- how many words the row of an exit has, by the formals of its method
pub width_of : (f : Facts) (g : Graph) (formals : ℕ) (e : ExitId) → IsCalleeAt f g formals e → IsWidthOf f e ((formals + 63) / 64)
width_of f g formals e (m, x, at, of, is, count) =
    let i = count.0 in
    let has = has_node f.inputs x m i of count.1 in
    (m, i, x, get_or i.nodes (x.0 - i.first.0) Thrown, at, count.1, (has.0, slice_get-get_or i.nodes (x.0 - i.first.0) Thrown (omega (arith, has.0, has.1))), ap (λ n. (n + 63) / 64) count.2)

-- the method of a graph is the one that it says
pub method_is : (f : Facts) (m : MethodId) (g : Graph) → IsGraphIn f.inputs m g → m ≡ g.method
method_is f m g is = ap (λ n. record { 0 = n }) (sym (f.follow_on m.0 is.0 is.1).0) ∙ sym is.2.method

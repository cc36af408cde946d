-- Steps back from a node, by the edges that end there and the pairs that were found.
use Rattle.std.proofs.Common.{◌≡◌, ◌<◌, ◌≤◌, ◌+◌, ℕ, true, List, [], ◌∷◌, ◌++◌, length, take, get_or, Contains, Option, Some, ◌⊎◌, inl, inr, refl, sym, subst, ap, ◌∙◌, length-append, append_assoc, arith}
use Rattle.std.specs.Prelude.{slice_get}
use Rattle.std.proofs.lemmas.Option.{same_Some, slice_get_within}
use Rattle.std.proofs.lemmas.List.{append-nil, take-append-le}
use Rattle.std.proofs.lemmas.List.Elements.{Contains-append_left, Contains-push, Contains-push_cases, All-contains}
use Rattle.tabulate.proofs.Collecting.{take_to}
use Rattle.thin_slice.specs.declared.marked.MarkedNodes.{MarkedNodes}
use Rattle.thin_slice.specs.Marks.{AreNodesOf, found}
use Rattle.slicer_ids.specs.declared.ids.NodeId.{NodeId}
use Rattle.slicer_ids.specs.declared.ids.CallId.{CallId}
use Rattle.slicer_ids.specs.declared.ids.ExitId.{ExitId}
use Rattle.slicer_ids.specs.declared.ids.Mode.TheVariants.{Full}
use Rattle.dep_form.specs.declared.facts.Facts.{Facts}
use Rattle.dep_form.specs.declared.node.Edge.{Edge}
use Rattle.dep_form.specs.declared.node.Label.{Label}
use Rattle.dep_form.specs.declared.node.Label.TheVariants.{Thin, Base, Call, Return}
use Rattle.dep_form.specs.Phases.{edge, Level}
use Rattle.dep_form.specs.Paths.{IsInSlice}
use Rattle.dep_form.specs.Summaries.{IsExitAt}
use Rattle.dep_form.proofs.Realizable.{by_list}
use Rattle.thin_slice.specs.declared.needs.Phase.{Phase}
use Rattle.thin_slice.specs.declared.needs.Phase.TheVariants.{Up, Down}
use Rattle.thin_slice.specs.Steps.{Moves, Passes, GoesBack, FollowsOne, may_follow}
use Rattle.thin_slice.proofs.Phasing.{by_up, by_down, on_from_down, in_front}
use Rattle.thin_slice.proofs.Phasing as phasing
use Rattle.tabulate.specs.declared.found.Found.{Found}
use Rattle.tabulate.specs.declared.method.Method.{Method}
use Rattle.tabulate.specs.declared.method.Back.{Back}
use Rattle.tabulate.specs.Frames.{count, method_of, number_of}
use Rattle.tabulate.proofs.Fitting.{return_exit, return_ends, return_starts, call_starts, thin_fits, base_fits}
use Rattle.worklists.specs.Growth.{Grows, FromOne}
use Rattle.worklists.proofs.Growing.{Grows-kept}
use Rattle.widening.specs.declared.pairs.Pairs.{Pairs}
use Rattle.widening.specs.Edges.{AreEdges, AreInto}
use Rattle.widening.specs.Pairs.{Has, AreWhole, KeepsMet, KeepsAsked}
use Rattle.widening.specs.Marks.{Leads, AreLeading, IsAsked, IsMarking, IsBegun, AreStepped, OverCall, OverEdge, IsOver}
use Rattle.widening.proofs.EdgeSets.{level_home}
use Rattle.widening.proofs.PairLaws.{to_exit, whole}

module _ (E : Edge → Type 0) where
  -- ---- steps lead to a seed
  pub leads_back : (seeds : List NodeId) (phase : Phase) (n q : NodeId) → Leads E seeds phase n → GoesBack E phase n q → Leads E seeds phase q
  leads_back seeds Up n q h s = by_up E seeds n q h s
  leads_back seeds Down n q h s = by_down E seeds n q h s

  pub in_slice : (seeds : List NodeId) (phase : Phase) (n : NodeId) → Leads E seeds phase n → IsInSlice E (Contains seeds) n
  in_slice seeds Up n h = let d = on_from_down E seeds n h in (d.0, d.1, by_list E n d.0 d.2)
  in_slice seeds Down n h = (h.0, h.1, by_list E n h.0 h.2)

  -- ---- along one edge
  module _ (n : NodeId) (es : List Edge) (into : AreInto E n es) where
    up_one : (l : Label) (a : NodeId) → E (edge a l n) → may_follow Full Up l ≡ true → Moves E Up n a
    up_one Thin a e t = inl (inl e)
    up_one Base a e t = inl (inr e)
    up_one (Call c) a e t = inr (c, e)
    up_one (Return c) a e t = absurd cc

    down_one : (l : Label) (a : NodeId) → E (edge a l n) → may_follow Full Down l ≡ true → Moves E Down n a
    down_one Thin a e t = inl (inl e)
    down_one Base a e t = inl (inr e)
    down_one (Call c) a e t = absurd cc
    down_one (Return c) a e t = inr (c, e)

    ends : (e : Edge) → Contains es e → E (edge e.from e.label n)
    ends e c = let is = (into e).0 c in subst (λ (y : NodeId). E (edge e.from e.label y)) is.1 is.0

    pub to_moves : (phase : Phase) (q : NodeId) → FromOne (FollowsOne Full phase) es q → Moves E phase n q
    to_moves Up q (e, c, w) = subst (λ (y : NodeId). Moves E Up n y) (sym w.1) (up_one e.label e.from (ends e c) w.0)
    to_moves Down q (e, c, w) = subst (λ (y : NodeId). Moves E Down n y) (sym w.1) (down_one e.label e.from (ends e c) w.0)

    there : (l : Label) (q : NodeId) → E (edge q l n) → Contains es (edge q l n)
    there l q e = (into (edge q l n)).1 (e, refl)

    pub from_moves : (phase : Phase) (q : NodeId) → Moves E phase n q → FromOne (FollowsOne Full phase) es q
    from_moves Up q (inl (inl e)) = (edge q Thin n, there Thin q e, (refl, refl))
    from_moves Up q (inl (inr e)) = (edge q Base n, there Base q e, (refl, refl))
    from_moves Up q (inr s) = (edge q (Call s.0) n, there (Call s.0) q s.1, (refl, refl))
    from_moves Down q (inl (inl e)) = (edge q Thin n, there Thin q e, (refl, refl))
    from_moves Down q (inl (inr e)) = (edge q Base n, there Base q e, (refl, refl))
    from_moves Down q (inr s) = (edge q (Return s.0) n, there (Return s.0) q s.1, (refl, refl))

module _ (f : Facts) (E : Edge → Type 0) (ms : List (Option Method)) (p : Pairs) (w : AreWhole f E ms p) where
  -- ---- over a call
  to_pass : (d : ExitId) (k : CallId) (x n q : NodeId) → IsExitAt f d x → E (edge x (Return k) n) → OverCall f p.found.items d k q → Passes E n q
  to_pass d k x n q at r (y, b, there, c, own, got) =
      let same : y ≡ x = same_Some y x (sym there ∙ at) in
      let l : Level E b x = subst (λ (z : NodeId). Level E b z) same (to_exit f E w.pairs.edges p.asked.items b y d there own (w.pairs.good (b.0, number_of f y.0) got)) in
      (k, x, r, (b, w.pairs.edges.calls q b k c, l))

  from_pass : (d : ExitId) (k : CallId) (x b q : NodeId) → IsExitAt f d x → Contains p.asked.items d → E (edge q (Call k) b) → Level E b x → OverCall f p.found.items d k q
  from_pass d k x b q at asked c l =
      (x, b, at, w.pairs.edges.sub (edge q (Call k) b) c, level_home f E w.pairs.edges l, whole f E w.pairs.edges (Has f p) w.done (number_of f x.0) l (w.pairs.begun d x asked at))

  module _ (n : NodeId) (es : List Edge) (into : AreInto E n es) (served : IsAsked f E ms p.asked.items n) where
    pub to_passes : (q : NodeId) → FromOne (OverEdge f p.found.items) es q → Passes E n q
    to_passes q (e, c, (d, k, at, l, over)) =
        let is = (into e).0 c in
        let r : E (edge e.from (Return k) n) = subst (λ (y : Label). E (edge e.from y n)) l (subst (λ (y : NodeId). E (edge e.from e.label y)) is.1 is.0) in
        to_pass d k e.from n q at r over

    pub from_passes : (q : NodeId) → Passes E n q → FromOne (OverEdge f p.found.items) es q
    from_passes q (k, x, r, (b, c, l)) =
        let d = return_exit f x n k (w.pairs.edges.sub (edge x (Return k) n) r) in
        (edge x (Return k) n, (into (edge x (Return k) n)).1 (r, refl), (d.0, k, d.1, refl, from_pass d.0 k x b q d.1 (served.returns x d.0 k r d.1) c l))

  -- ---- over the calls whose returns lead to marked nodes
  pub over_passes : (nodes : List NodeId) (q : NodeId) → IsOver f ms p.found.items nodes q → (n : NodeId) × Contains nodes n × Passes E n q
  over_passes nodes q (m, lt, (x, met, (b, c, (marked, over)))) =
      let right = w.pairs.methods.right m x met in
      let back = right.0.backs.each b c in
      (b.to, marked, to_pass b.exit b.call back.0 b.to q back.1 (w.pairs.edges.returns back.0 b.to b.call back.2) over)

  pub passes_over : (nodes : List NodeId) (n q : NodeId) → Contains nodes n → IsAsked f E ms p.asked.items n → Passes E n q → IsOver f ms p.found.items nodes q
  passes_over nodes n q marked served (k, x, r, (b, c, l)) =
      let e = w.pairs.edges.sub (edge x (Return k) n) r in
      let d = return_exit f x n k e in
      let m = served.met in
      let right = w.pairs.methods.right (method_of f n.0) m.0 m.1 in
      let back : Back = record { call = k; exit = d.0; to = n } in
      let home : method_of f n.0 ≡ m.0.id.0 = sym right.1 in
      (method_of f n.0, slice_get_within ms (method_of f n.0) (Some m.0) m.1, (m.0, m.1, (back, right.0.backs.whole back (x, d.1, e, (return_ends f x n k e, home)), (marked, from_pass d.0 k x b q d.1 (served.returns x d.0 k r d.1) c l))))

module _ (f : Facts) (E : Edge → Type 0) where
  pub asked_on : (ms ms' : List (Option Method)) (asked asked' : List ExitId) (n : NodeId) → KeepsMet ms ms' → KeepsAsked asked asked' → IsAsked f E ms asked n → IsAsked f E ms' asked' n
  asked_on ms ms' asked asked' n met more s = record {
    met = (s.met.0, met (method_of f n.0) s.met.0 s.met.1);
    returns = λ e d k r at. more d (s.returns e d k r at);
    own = λ d at. more d (s.own d at);
  }

  -- a node was taken up
  module _ (phase : Phase) (ms ms' : List (Option Method)) (asked asked' : List ExitId) (met : KeepsMet ms ms') (more : KeepsAsked asked asked') (next : ℕ) (x : NodeId) (old new : List NodeId)
      (at : slice_get old next ≡ Some x) (grown : Grows old new (GoesBack E phase x)) (served : IsAsked f E ms' asked' x) (t : IsMarking f E phase ms asked next old) where
    cases : (n : NodeId) → Contains (take (next + 1) new) n → Contains (take next old) n ⊎ (n ≡ x)
    cases n c = phasing.taken next x old new (GoesBack E phase x) at grown n c

    keep : (q : NodeId) → Contains old q → Contains new q
    keep q c = Grows-kept old new (GoesBack E phase x) grown q c

    pub marking_goes_on : IsMarking f E phase ms' asked' (next + 1) new
    marking_goes_on = record {
      moves = λ n q c h. elim (cases n c) [ inl o ↦ keep q (t.moves n q o h) | inr e ↦ grown.all q (inl (subst (λ (y : NodeId). Moves E phase y q) e h)) ];
      passes = λ n q c h. elim (cases n c) [ inl o ↦ keep q (t.passes n q o h) | inr e ↦ grown.all q (inr (subst (λ (y : NodeId). Passes E y q) e h)) ];
      served = λ n c. elim (cases n c) [ inl o ↦ asked_on ms ms' asked asked' n met more (t.served n o) | inr e ↦ subst (λ (y : NodeId). IsAsked f E ms' asked' y) (sym e) served ];
      within = phasing.longer next x old new (GoesBack E phase x) at grown;
    }

-- what a list that was empty has
pub from_nothing : (old new : List NodeId) (P : NodeId → Type 0) → old ≡ [] → Grows old new P → (q : NodeId) → Contains new q → P q
from_nothing old new P none g q c = elim (g.only q c) [ inl o ↦ let no : Contains [] q = subst (λ (xs : List NodeId). Contains xs q) none o in absurd (omega (arith, no.1)) | inr h ↦ h ]

module _ (f : Facts) (E : Edge → Type 0) (edges : AreEdges f E) where
  starts : (l : Label) (a n : NodeId) → E (edge a l n) → a.0 < count f
  starts Thin a n e = (thin_fits f a n (edges.sub (edge a Thin n) e)).0
  starts Base a n e = (base_fits f a n (edges.sub (edge a Base n) e)).0
  starts (Call k) a n e = call_starts f a n k (edges.sub (edge a (Call k) n) e)
  starts (Return k) a n e = return_starts f a n k (edges.sub (edge a (Return k) n) e)

  pub starts_low : (e : Edge) → E e → e.from.0 < count f
  starts_low e h = starts e.label e.from e.to h

pub over_low : (f : Facts) (ts : List Found) (d : ExitId) (k : CallId) (q : NodeId) → OverCall f ts d k q → q.0 < count f
over_low f ts d k q (x, b, at, c, own, got) = call_starts f q b k c

pub over_edges_low : (f : Facts) (ts : List Found) (es : List Edge) (q : NodeId) → FromOne (OverEdge f ts) es q → q.0 < count f
over_edges_low f ts es q (e, c, (d, k, at, l, over)) = over_low f ts d k q over

pub is_over_low : (f : Facts) (ms : List (Option Method)) (ts : List Found) (nodes : List NodeId) (q : NodeId) → IsOver f ms ts nodes q → q.0 < count f
is_over_low f ms ts nodes q (m, lt, (x, met, (b, c, (marked, over)))) = over_low f ts b.exit b.call q over

-- the same nodes, and some more
pub front_then : (a b d : List NodeId) → (more : List NodeId) × (b ≡ a ++ more) → (more : List NodeId) × (d ≡ b ++ more) → (more : List NodeId) × (d ≡ a ++ more)
front_then a b d x y = (x.0 ++ y.0, y.1 ∙ ap (λ (xs : List NodeId). xs ++ y.0) x.1 ∙ append_assoc a x.0 y.0)

pub in_more : (a b : List NodeId) → (more : List NodeId) × (b ≡ a ++ more) → (n : NodeId) → Contains a n → Contains b n
in_more a b x n c = subst (λ (xs : List NodeId). Contains xs n) (sym x.1) (Contains-append_left a x.0 n c)

pub take_front : (a b : List NodeId) (k : ℕ) → (more : List NodeId) × (b ≡ a ++ more) → k ≤ length a → take k b ≡ take k a
take_front a b k x le = ap (take k) x.1 ∙ take-append-le k a x.0 le

pub front_longer : (a b : List NodeId) → (more : List NodeId) × (b ≡ a ++ more) → length a ≤ length b
front_longer a b x = omega (arith, ap length x.1, length-append a x.0)

module _ (E : Edge → Type 0) (phase : Phase) where
  -- marks that grew by a step still lead to a seed
  pub leading_grown : (seeds : List NodeId) (n : NodeId) (old new : List NodeId) → Grows old new (GoesBack E phase n) → Contains old n → AreLeading E seeds phase old → AreLeading E seeds phase new
  leading_grown seeds n old new g c lead m k = elim (g.only m k) [ inl o ↦ lead m o | inr s ↦ leads_back E seeds phase n m (lead n c) s ]

  pub stepped_none : (again nodes : List NodeId) → AreStepped E phase (take 0 again) nodes nodes
  stepped_none again nodes = record { front = ([], sym (append-nil nodes)); steps = λ n q c h s. absurd (omega (arith, c.1)) }

  pub stepped_more : (again : List NodeId) (i : ℕ) (d : NodeId) (start mid new : List NodeId) → i < length again → (more : List NodeId) × (new ≡ mid ++ more) → ((q : NodeId) → Contains mid (get_or again i d) → GoesBack E phase (get_or again i d) q → Contains new q)
      → AreStepped E phase (take i again) start mid → AreStepped E phase (take (i + 1) again) start new
  stepped_more again i d start mid new lt front step s = record {
    front = front_then start mid new s.front front;
    steps = λ n q c h g. elim (take_to again i d n lt c) [
      | inl o ↦ in_more mid new front q (s.steps n q o h g)
      | inr is ↦ step q (subst (λ (y : NodeId). Contains mid y) (sym is) (in_more start mid s.front n h)) (subst (λ (y : NodeId). GoesBack E phase y q) (sym is) g)
    ];
  }

module _ (f : Facts) (E : Edge → Type 0) (phase : Phase) where
  -- steps back from the first nodes are whole, once those back from some nodes were taken again and those over calls too
  pub marking_from : (again : List NodeId) (ms ms1 : List (Option Method)) (p p1 : Pairs) (taken : ℕ) (nodes nodes1 nodes2 : List NodeId) → AreWhole f E ms1 p1 → KeepsMet ms ms1 → KeepsAsked p.asked.items p1.asked.items → IsBegun f E phase again ms p.asked.items taken nodes
      → AreStepped E phase again nodes nodes1 → Grows nodes1 nodes2 (IsOver f ms1 p1.found.items nodes1) → IsMarking f E phase ms1 p1.asked.items taken nodes2
  marking_from again ms ms1 p p1 taken nodes nodes1 nodes2 w met kept b s over = record {
    moves = λ n q c m.
        let o = first n c in
        elim (b.moves n q o m) [ inl h ↦ on2 q (on1 q h) | inr h ↦ on2 q (s.steps n q h (in_front taken nodes n o) (inl m)) ];
    passes = λ n q c h.
        let o = first n c in
        over.all q (passes_over f E ms1 p1 w nodes1 n q (on1 n (in_front taken nodes n o)) (asked_on f E ms ms1 p.asked.items p1.asked.items n met kept (b.served n o)) h);
    served = λ n c. asked_on f E ms ms1 p.asked.items p1.asked.items n met kept (b.served n (first n c));
    within = omega (arith, b.within, front_longer nodes nodes1 s.front, front_longer nodes1 nodes2 over.front);
  }
    where
      on1 : (n : NodeId) → Contains nodes n → Contains nodes1 n
      on1 n c = in_more nodes nodes1 s.front n c

      on2 : (n : NodeId) → Contains nodes1 n → Contains nodes2 n
      on2 n c = in_more nodes1 nodes2 over.front n c

      first : (n : NodeId) → Contains (take taken nodes2) n → Contains (take taken nodes) n
      first n c = subst (λ (xs : List NodeId). Contains xs n) (take_front nodes nodes2 taken (front_then nodes nodes1 nodes2 s.front over.front) b.within) c

  -- what lies over calls leads to a seed
  pub leading_over : (seeds : List NodeId) (ms : List (Option Method)) (p : Pairs) (nodes nodes1 : List NodeId) → AreWhole f E ms p → Grows nodes nodes1 (IsOver f ms p.found.items nodes) → AreLeading E seeds phase nodes → AreLeading E seeds phase nodes1
  leading_over seeds ms p nodes nodes1 w g lead m k = elim (g.only m k) [
    | inl o ↦ lead m o
    | inr h ↦ let s = over_passes f E ms p w nodes m h in leads_back E seeds phase s.0 m (lead s.0 s.1) (inr s.2)
  ]

-- a node that is marked is a node
pub marked_low : (f : Facts) (s : MarkedNodes) → AreNodesOf f s → (n : NodeId) → Contains (found s) n → n.0 < count f
marked_low f s a n c = let low = All-contains (λ (y : NodeId). y.0 < length s.marks.items) (found s) n a.set.set.below c in omega (arith, low, a.size)

-- one node was pushed
pub grows_one : (old new : List NodeId) (n : NodeId) (P : NodeId → Type 0) → new ≡ old ++ n ∷ [] → P n → ((q : NodeId) → P q → q ≡ n) → Grows old new P
grows_one old new n P pushed there one = record {
  front = (n ∷ [], pushed);
  all = λ q h. subst (λ (xs : List NodeId). Contains xs q) (sym pushed) (subst (λ (y : NodeId). Contains (old ++ n ∷ []) y) (sym (one q h)) (Contains-push old n));
  only = λ q c. elim (Contains-push_cases old n q (subst (λ (xs : List NodeId). Contains xs q) pushed c)) [ inl o ↦ inl o | inr is ↦ inr (subst P is there) ];
}

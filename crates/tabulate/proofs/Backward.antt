-- Back over the edges that end in a node that was taken up.
use Rattle.std.proofs.Common.{◌≡◌, ℕ, ◌<◌, List, [], ◌∷◌, ◌++◌, length, get_or, Contains, Option, Some, ◌⊎◌, inl, inr, refl, sym, subst, ap, ◌∙◌, arith}
use Rattle.std.specs.Prelude.{◌↔◌}
use Rattle.std.proofs.lemmas.Option.{slice_get_within, slice_get-get_or}
use Rattle.std.proofs.lemmas.List.Elements.{Contains-append_left, Contains-push, Contains-push_cases}
use Rattle.bit_rows.specs.Words.{IsIn}
use Rattle.bit_rows.specs.Adds.{Taken}
use Rattle.bit_rows.proofs.Counting.{here, later, front_or}
use Rattle.slicer_ids.specs.declared.ids.NodeId.{NodeId}
use Rattle.slicer_ids.specs.declared.ids.CallId.{CallId}
use Rattle.slicer_ids.specs.declared.ids.ExitId.{ExitId}
use Rattle.slicer_ids.specs.declared.ids.Mode.{Mode}
use Rattle.dep_form.specs.declared.facts.Facts.{Facts}
use Rattle.dep_form.specs.declared.node.Edge.{Edge}
use Rattle.dep_form.specs.declared.node.Label.TheVariants.{Return}
use Rattle.dep_form.specs.Inputs.{IsEdge}
use Rattle.dep_form.specs.Phases.{edge}
use Rattle.dep_form.specs.Summaries.{IsExitAt}
use Rattle.tabulate.specs.declared.found.Found.{Found}
use Rattle.tabulate.specs.declared.hands.Hands.{Hands}
use Rattle.tabulate.specs.declared.method.Method.{Method}
use Rattle.tabulate.specs.Frames.{node, count, method_of, number_of}
use Rattle.tabulate.specs.Methods.{IsMet}
use Rattle.tabulate.specs.Hands.{hand_of}
use Rattle.tabulate.specs.Found.{Got, Todo, IsOpen, AreFound, IsQueue, Goes, Takes, waits_of}
use Rattle.tabulate.specs.Rules.{FromOne, Follows, hand_at}
use Rattle.tabulate.specs.States.{IsGood, IsDone, Demands, IsReturnFrom, IsKnown, IsNext, IsTakenUp, Holds, MeetStep, Open, OfNode}
use Rattle.tabulate.proofs.Placing.{placed, exit_place}
use Rattle.tabulate.proofs.Fitting.{return_exit, labelled}
use Rattle.tabulate.proofs.ModeEdges.{to_return, path_of}
use Rattle.tabulate.proofs.Testing.{closed_none}
use Rattle.tabulate.proofs.PathLaws.{follows_good}
use Rattle.tabulate.proofs.MeetLaws.{asked_by_pair}
use Rattle.tabulate.proofs.DoneLaws.{not_both, done_meets, done_follows}

module _ (p : Facts) where
  -- the exits of returns among some edges
  pub exit_added : (list list' : List ExitId) (x : Edge) (k : CallId) (e : ExitId) → x.label ≡ Return k → IsExitAt p e x.from → list' ≡ list ++ e ∷ [] → (d : ExitId) → Contains list' d ↔ (Contains list d ⊎ IsReturnFrom p d x)
  exit_added list list' x k e is at grown d = (to, from)
    where
      to : Contains list' d → Contains list d ⊎ IsReturnFrom p d x
      to c = elim (Contains-push_cases list e d (subst (λ (ys : List ExitId). Contains ys d) grown c)) [ inl o ↦ inl o | inr same ↦ inr (subst (λ (y : ExitId). IsReturnFrom p y x) same (at, k, is)) ]

      from : Contains list d ⊎ IsReturnFrom p d x → Contains list' d
      from c = subst (λ (ys : List ExitId). Contains ys d) (sym grown) (elim c [
        | inl o ↦ Contains-append_left list (e ∷ []) d o
        | inr r ↦ let place : e.0 ≡ d.0 = sym (exit_place p e x.from at) ∙ exit_place p d x.from r.0 in subst (λ (y : ExitId). Contains (list ++ e ∷ []) y) (ap (λ (n : ℕ). record { 0 = n }) place) (Contains-push list e)
      ])

  pub no_exit : (list : List ExitId) (x : Edge) (d : ExitId) → (IsReturnFrom p d x → ⊥) → Contains list d ↔ (Contains list d ⊎ IsReturnFrom p d x)
  no_exit list x d none = (λ c. inl c, λ c. elim c [ inl o ↦ o | inr r ↦ absurd (none r) ])

  -- a method with a pair that was found is open
  pub got_open : (ts : List Found) (q : ℕ × ℕ) → AreFound p ts → Got p ts q → IsOpen p ts (method_of p q.0)
  got_open ts q found g = elim (found.shape (method_of p q.0)) [ inl z ↦ absurd (closed_none p ts found q.0 (method_of p q.0) q.1 refl z g) | inr o ↦ o ]

  pub open_waits : (ts : List Found) (n : ℕ) → n < count p → IsOpen p ts (method_of p n) → 0 < length (waits_of ts (method_of p n))
  open_waits ts n nl o = let h = placed p n nl in omega (arith, o, h.above, h.below)

  -- the first of the queue
  pub first_of : (ts : List Found) (n : NodeId) (q : List NodeId) → IsQueue p ts (n ∷ q) → (n.0 < count p) × IsOpen p ts (method_of p n.0)
  first_of ts n q queue = queue.opened n.0 (here n q)

  -- .. was taken out
  module _ (ts ts' : List Found) (n : NodeId) (q : List NodeId) (delta : List ℕ) (found : AreFound p ts') (queue : IsQueue p ts (n ∷ q)) (takes : Takes p ts ts' n.0 delta) where
    rest_queue : IsQueue p ts' q
    rest_queue = record {
      queued = λ k kl w.
          let h = takes.waiting k kl w in
          elim (front_or n (node k) q (queue.queued k kl h.0)) [ inl same ↦ absurd (h.1 (sym (ap (λ (y : NodeId). y.0) same))) | inr c ↦ c ];
      opened = λ k c. let o = queue.opened k (later n (node k) q c) in (o.0, takes.lens (method_of p k) ∙ o.1);
    }

    pub is_next : IsNext p ts ts' (n ∷ q) q n delta
    is_next = record { items = refl; there = ((first_of ts n q queue).0, takes.lens (method_of p n.0) ∙ (first_of ts n q queue).1); found = found; queue = rest_queue; takes = takes }

  module _ (mode : Mode) where
    -- more may wait
    pub done_same : (h : Hands) (got todo todo' : ℕ × ℕ → Type 0) → IsDone p mode h got todo → ((q : ℕ × ℕ) → todo q → todo' q) → ((q : ℕ × ℕ) → todo' q → got q) → IsDone p mode h got todo'
    done_same h got todo todo' d on sub = record {
      sub = sub;
      flows = λ n a x l g e f. elim (d.flows n a x l g e f) [ inl w ↦ inl (on (n.0, x) w) | inr b ↦ inr b ];
      asks = λ n e x k g r. elim (d.asks n e x k g r) [ inl w ↦ inl (on (n.0, x) w) | inr b ↦ inr b ];
      calls = λ n a g e x k u v none r c own. elim (d.calls n a g e x k u v none r c own) [ inl w ↦ inl (on (n.0, x) w) | inr b ↦ inr (elim b [ inl w ↦ inl (on (g.0, number_of p e.0) w) | inr f ↦ inr f ]) ];
      hands = λ n a g e x k bits u some bit r c own. elim (d.hands n a g e x k bits u some bit r c own) [ inl w ↦ inl (on (n.0, x) w) | inr f ↦ inr f ];
    }

    -- all that was found waits
    pub done_waiting : (h : Hands) (got todo : ℕ × ℕ → Type 0) → ((q : ℕ × ℕ) → got q → todo q) → ((q : ℕ × ℕ) → todo q → got q) → IsDone p mode h got todo
    done_waiting h got todo waits sub = record {
      sub = sub;
      flows = λ n a x l g e f. inl (waits (n.0, x) g);
      asks = λ n e x k g r. inl (waits (n.0, x) g);
      calls = λ n a g e x k u v none r c own. inl (waits (n.0, x) u);
      hands = λ n a g e x k bits u some bit r c own. inl (waits (n.0, x) u);
    }

    -- the exit of a return into a node with a pair is demanded
    pub demands_back : (e : ExitId → Type 0) (asked : List ExitId) (n : NodeId) (x : ℕ) (d : ExitId) (r : Edge) → IsGood p mode asked (n.0, x) → IsEdge p.inputs r → r.to ≡ n → IsReturnFrom p d r → Demands p mode e (Contains asked) d
    demands_back e asked n x d r g is to from =
        inr (r.from, n, from.1, g.to, from.0, to_return p mode r.from n from.1 (labelled p r (Return from.1) n from.2 to is), (g.was_asked, g.end, g.exit, path_of p mode n g.end (g.level n refl)))

    module _ (e : ExitId → Type 0) (Has : ExitId → Type 0) (ms : List (Option Method)) (h : Hands) (asked : List ExitId) (ts : List Found) (q : List NodeId) (s : Holds p mode e Has ms h asked ts q) where
      pub holds_next : (ts' : List Found) (q' : List NodeId) (n : NodeId) (delta : List ℕ) → IsNext p ts ts' q q' n delta → Holds p mode e Has ms h asked ts' q'
      holds_next ts' q' n delta x = record {
        found = x.found;
        in_queue = x.queue;
        methods = s.methods;
        met = λ m lt. s.met m (omega (arith, lt, x.takes.lens m));
        exits = s.exits;
        begun = λ d y c at. x.takes.got (y.0, number_of p y.0) (s.begun d y c at);
        hands = s.hands;
        good = λ r g. s.good r (x.takes.back r g);
      }

      -- the method of a node with a pair was met
      pub got_met : (r : ℕ × ℕ) → Got p ts r → IsMet ms (method_of p r.0)
      got_met r g = s.met (method_of p r.0) (open_waits ts r.0 g.0 (got_open ts r s.found g))

      -- the method of an exit that was asked for, or whose row is to hand, was met
      pub known_met : (d : ExitId) (x : NodeId) → IsExitAt p d x → IsKnown h asked d → IsMet ms (method_of p x.0)
      known_met d x at (inl c) = got_met (x.0, number_of p x.0) (s.begun d x c at)
      known_met d x at (inr t) = s.hands.met d x t.0 t.1 at

      -- an exit that was asked for has a node, of a method that was met
      pub asked_there : (d : ExitId) → Contains asked d → (x : NodeId) × IsExitAt p d x × IsMet ms (method_of p x.0)
      asked_there d c =
          let none : NodeId = record { 0 = 0 } in
          let at = slice_get-get_or p.exits d.0 none (s.exits.exits d c) in
          (get_or p.exits d.0 none, at, known_met d (get_or p.exits d.0 none) at (inl c))

      -- .. and it is no news that it leads to itself
      pub known_pair : (exits : List ExitId) (edges : List Edge) (n : NodeId) → ((d : ExitId) → Contains exits d → IsKnown h asked d) → ((d : ExitId) (x : Edge) → Contains edges x → IsReturnFrom p d x → Contains exits d) → ((r : Edge) → IsEdge p.inputs r → r.to ≡ n → Contains edges r)
          → (x : NodeId) (k : CallId) → IsEdge p.inputs (edge x (Return k) n) → Got p ts (x.0, number_of p x.0) ⊎ ((bits : List ℕ) × (hand_at p h x ≡ Some bits))
      known_pair exits edges n known each whole x k r =
          let d = return_exit p x n k r in
          elim (known d.0 (each d.0 (edge x (Return k) n) (whole (edge x (Return k) n) r refl) (d.1, k, refl))) [
            | inl c ↦ inl (s.begun d.0 x c d.1)
            | inr t ↦ inr (t.0, ap (hand_of h) (exit_place p d.0 x d.1) ∙ t.1)
          ]

      -- what follows was found
      pub holds_follows : (ts' : List Found) (q' : List NodeId) (st st' : ℕ) (n : NodeId) (delta : List ℕ) (es : List Edge) → Goes p ts ts' q q' st st' (FromOne (Follows p mode h n delta) es)
          → ((x : ℕ) → IsIn delta x → IsGood p mode asked (n.0, x)) → ((r : Edge) → Contains es r → IsEdge p.inputs r × (r.to ≡ n)) → Holds p mode e Has ms h asked ts' q'
      holds_follows ts' q' st st' n delta es g new edges = record {
        found = g.found;
        in_queue = g.queue;
        methods = s.methods;
        met = λ m lt. s.met m (omega (arith, lt, g.lens m));
        exits = s.exits;
        begun = λ d y c at. g.adds.kept (y.0, number_of p y.0) (s.begun d y c at);
        hands = s.hands;
        good = λ r u. elim (g.adds.only r u) [ inl o ↦ s.good r o | inr f ↦ follows_good p mode h asked s.hands.rows n delta es (Taken (Got p ts) (Todo p ts)) new (λ k t. s.good k t.0) edges r f ];
      }

    -- one node: first the exits that it demands are met, then its new bits are followed
    module _ (e : ExitId → Type 0) (Had Has : ExitId → Type 0) (ms ms' : List (Option Method)) (h h' : Hands) (asked asked' : List ExitId) (ts ts' ts'' : List Found) (q q' q'' : List NodeId) (st st' st'' : ℕ) (n : NodeId) (delta : List ℕ) (edges : List Edge) (exits : List ExitId)
        (s : Holds p mode e Had ms h asked ts q) (d : IsDone p mode h (Got p ts) (Open (Todo p ts) (OfNode n delta))) (taken : IsTakenUp p ts n delta) (some : (x : ℕ) × IsIn delta x)
        (edges_are : (r : Edge) → Contains edges r ↔ (IsEdge p.inputs r × (r.to ≡ n))) (exits_are : (k : ExitId) → Contains exits k ↔ ((r : Edge) × Contains edges r × IsReturnFrom p k r)) where
      new_good : (x : ℕ) → IsIn delta x → IsGood p mode asked (n.0, x)
      new_good x b = s.good (n.0, x) (taken x b)

      pub all_demanded : (k : ExitId) → Contains exits k → (k.0 < length p.exits) × Demands p mode e (Contains asked) k
      all_demanded k c =
          let r = (exits_are k).0 c in
          let is = (edges_are r.0).0 r.1 in
          (slice_get_within p.exits k.0 r.0.from r.2.0, demands_back e asked n some.0 k r.0 (new_good some.0 some.1) is.0 is.1 r.2)

      module _ (step : MeetStep p mode e Had Has (Contains exits) ms' h h' asked asked' ts ts' q q' st st') where
        taken' : (x : ℕ) → IsIn delta x → Got p ts' (n.0, x)
        taken' x b = step.meets.adds.kept (n.0, x) (taken x b)

        pub node_open : IsOpen p ts' (method_of p n.0)
        node_open = got_open ts' (n.0, some.0) step.holds.found (taken' some.0 some.1)

        pub node_met : IsMet ms' (method_of p n.0)
        node_met = got_met e Has ms' h' asked' ts' q' step.holds (n.0, some.0) (taken' some.0 some.1)

        pub edges_met : (r : Edge) → Contains edges r → IsEdge p.inputs r × (r.to ≡ n) × ((k : CallId) → r.label ≡ Return k → IsMet ms' (method_of p r.from.0))
        edges_met r c =
            let is = (edges_are r).0 c in (
              is.0,
              is.1,
              λ k l.
                  let x = return_exit p r.from r.to k (labelled p r (Return k) r.to l refl is.0) in
                  known_met e Has ms' h' asked' ts' q' step.holds x.0 r.from x.1 (step.known x.0 ((exits_are x.0).1 (r, c, (x.1, k, l)))),
            )

        apart : (k : ExitId) (x : NodeId) (bits : List ℕ) → IsExitAt p k x → Got p ts (x.0, number_of p x.0) → hand_of h' k.0 ≡ Some bits → ⊥
        apart k x bits at g some_bits = not_both bits (sym some_bits ∙ step.holds.exits.apart k (step.meets.more k (asked_by_pair p mode asked k x at (s.good (x.0, number_of p x.0) g))))

        met_done : IsDone p mode h' (Got p ts') (Open (Todo p ts') (OfNode n delta))
        met_done = done_meets p mode h h' asked asked' ts ts' (OfNode n delta) step.meets apart d

        module _ (goes : Goes p ts' ts'' q' q'' st' st'' (FromOne (Follows p mode h' n delta) edges)) where
          pub back_holds : Holds p mode e Has ms' h' asked' ts'' q''
          back_holds = holds_follows e Has ms' h' asked' ts' q' step.holds ts'' q'' st' st'' n delta edges goes (λ x b. step.holds.good (n.0, x) (taken' x b)) (λ r c. (edges_are r).0 c)

          pub back_done : IsDone p mode h' (Got p ts'') (Todo p ts'')
          back_done = done_follows p mode h' ts' ts'' n delta edges (λ r is to. (edges_are r).1 (is, to)) goes.adds
              (λ x k r b bit. known_pair e Has ms' h' asked' ts' q' step.holds exits edges n step.known (λ j y c f. (exits_are j).1 (y, c, f)) (λ y is to. (edges_are y).1 (is, to)) x k r) met_done

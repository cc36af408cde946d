-- Pairs of a node are followed.
use Rattle.std.proofs.Common.{◌≡◌, ◌<◌, ℕ, List, [], ◌∷◌, length, Contains, Option, None, ◌⊎◌, inl, inr, refl, sym, subst, ap, ◌∙◌, arith}
use Rattle.std.specs.Prelude.{◌↔◌}
use Rattle.std.proofs.lemmas.Option.{same_Some}
use Rattle.bit_rows.specs.Words.{IsIn}
use Rattle.bit_rows.specs.Adds.{Taken}
use Rattle.bit_rows.proofs.Adding.{taken_on, taken_back}
use Rattle.bit_rows.proofs.Counting.{front_or}
use Rattle.slicer_ids.specs.declared.ids.NodeId.{NodeId}
use Rattle.slicer_ids.specs.declared.ids.CallId.{CallId}
use Rattle.slicer_ids.specs.declared.ids.ExitId.{ExitId}
use Rattle.slicer_ids.specs.declared.ids.Mode.TheVariants.{Full}
use Rattle.dep_form.specs.declared.facts.Facts.{Facts}
use Rattle.dep_form.specs.declared.node.Edge.{Edge}
use Rattle.dep_form.specs.declared.node.Label.TheVariants.{Return}
use Rattle.dep_form.specs.Phases.{edge}
use Rattle.dep_form.specs.Paths.{IsInSlice}
use Rattle.dep_form.specs.Summaries.{IsExitAt}
use Rattle.dep_form.proofs.Realizable.{returned}
use Rattle.tabulate.specs.declared.hands.Hands.{Hands}
use Rattle.tabulate.specs.declared.method.Method.{Method}
use Rattle.tabulate.specs.Frames.{method_of, number_of}
use Rattle.tabulate.specs.Methods.{IsMet}
use Rattle.tabulate.specs.Hands.{hand_of}
use Rattle.tabulate.specs.declared.found.Found.{Found}
use Rattle.tabulate.specs.Found.{Got, Todo, AreFound, IsQueue, IsOpen, Goes, waits_of}
use Rattle.tabulate.specs.Rules.{FromOne, Follows}
use Rattle.tabulate.specs.States.{IsReturnFrom, IsTakenUp, AsksAny, IsNext}
use Rattle.tabulate.proofs.Fitting.{return_exit}
use Rattle.tabulate.proofs.Backward.{got_open, open_waits}
use Rattle.widening.specs.declared.pairs.Pairs.{Pairs}
use Rattle.widening.specs.Edges.{AreEdges, AreInto}
use Rattle.widening.specs.Pairs.{Has, Waits, IsGood, IsDone, ArePairs, AreWhole, AreNeeded, AreSameTaken, IsAskedStep, IsFollowed, IsFollowedAgain, AtNode, AtNodes, Either, KeepsAsked}
use Rattle.widening.proofs.EdgeSets.{path_of}
use Rattle.widening.proofs.PairLaws.{follows_good, done_follows, done_more, done_open, done_taken}

module _ (f : Facts) (E : Edge → Type 0) where
  -- the method of a node with a pair was met
  pub got_met : (ms : List (Option Method)) (p : Pairs) → ArePairs f E ms p → (q : ℕ × ℕ) → Has f p q → IsMet ms (method_of f q.0)
  got_met ms p s q g = s.met (method_of f q.0) (open_waits f p.found.items q.0 g.0 (got_open f p.found.items q s.found g))

  pub same_none : (p : Pairs) → AreSameTaken f p p
  same_none p = record { on = λ q t. t; back = λ q t. t }

  pub same_then : (p p1 p2 : Pairs) → AreSameTaken f p p1 → AreSameTaken f p1 p2 → AreSameTaken f p p2
  same_then p p1 p2 a b = record { on = λ q t. b.on q (a.on q t); back = λ q t. a.back q (b.back q t) }

  same_asked : (p p' : Pairs) (D : ExitId → Type 0) (ms : List (Option Method)) (t t' : ℕ) → IsAskedStep f E D ms p p' t t' → AreSameTaken f p p'
  same_asked p p' D ms t t' a = record {
    on = taken_on (Has f p) (Waits f p) (Has f p') (Waits f p') (AsksAny f p'.asked.items) a.adds;
    back = taken_back (Has f p) (Waits f p) (Has f p') (Waits f p') (AsksAny f p'.asked.items) a.adds;
  }

  -- no pair is there to be followed
  pub followed_none : (n : NodeId) (delta : List ℕ) (ms : List (Option Method)) (p : Pairs) (t : ℕ) → ArePairs f E ms p → ((x : ℕ) → IsIn delta x → ⊥) → IsFollowed f E n delta ms p p t t
  followed_none n delta ms p t s none = record {
    pairs = s;
    done = λ left d. done_open f E s.edges (Has f p) (Either (Waits f p) (Either (AtNode n delta) (AtNodes left))) (Either (Waits f p) (AtNodes left))
        (λ q g o. elim o [ inl w ↦ inl w | inr r ↦ elim r [ inl b ↦ absurd (none q.1 b.1) | inr l ↦ inr l ] ]) d;
    same = same_none p;
    kept = λ d c. c;
    needed = λ seeds h. h;
    lens = λ m. omega arith;
    work = omega arith;
  }

  -- first the exits that return to the node were asked for
  module _ (ms ms1 : List (Option Method)) (p p1 p2 : Pairs) (t t1 t2 : ℕ) (n : NodeId) (delta : List ℕ) (es : List Edge) (exits : List ExitId) (h : Hands) (none : (e : ℕ) → hand_of h e ≡ None)
      (s : ArePairs f E ms p) (taken : IsTakenUp f p.found.items n delta) (some : (x : ℕ) × IsIn delta x) (into : AreInto E n es)
      (exits_are : (d : ExitId) → Contains exits d ↔ ((e : Edge) × Contains es e × IsReturnFrom f d e))
      (step : IsAskedStep f E (Contains exits) ms1 p p1 t t1) where
    taken1 : (x : ℕ) → IsIn delta x → Has f p1 (n.0, x)
    taken1 x b = step.adds.kept (n.0, x) (taken x b)

    pub node_open : IsOpen f p1.found.items (method_of f n.0)
    node_open = got_open f p1.found.items (n.0, some.0) step.pairs.found (taken1 some.0 some.1)

    pub node_met : IsMet ms1 (method_of f n.0)
    node_met = got_met ms1 p1 step.pairs (n.0, some.0) (taken1 some.0 some.1)

    -- the exit of a return has its pair
    known : (e : NodeId) (k : CallId) → E (edge e (Return k) n) → Has f p1 (e.0, number_of f e.0)
    known e k r =
        let x = return_exit f e n k (s.edges.sub (edge e (Return k) n) r) in
        step.pairs.begun x.0 e (step.asked x.0 ((exits_are x.0).1 (edge e (Return k) n, (into (edge e (Return k) n)).1 (r, refl), (x.1, k, refl)))) x.1

    pub callee_met : (e : Edge) → Contains es e → (k : CallId) → e.label ≡ Return k → IsMet ms1 (method_of f e.from.0)
    callee_met e c k l =
        let is = (into e).0 c in
        let r : E (edge e.from (Return k) n) = subst (λ y. E (edge e.from y n)) l (subst (λ (y : NodeId). E (edge e.from e.label y)) is.1 is.0) in
        got_met ms1 p1 step.pairs (e.from.0, number_of f e.from.0) (known e.from k r)

    new_needed : (seeds : List NodeId) → AreNeeded f E seeds p.asked.items → (d : ExitId) (x : NodeId) → Contains exits d → IsExitAt f d x → IsInSlice E (Contains seeds) x
    new_needed seeds need d x c at =
        let r = (exits_are d).0 c in
        let is = (into r.0).0 r.1 in
        let good = s.good (n.0, some.0) (taken some.0 some.1) in
        let k = r.2.1 in
        let end = need good.to good.end good.was_asked good.exit in
        let e : E (edge r.0.from (Return k) n) = subst (λ y. E (edge r.0.from y n)) r.2.2 (subst (λ (y : NodeId). E (edge r.0.from r.0.label y)) is.1 is.0) in
        let same : r.0.from ≡ x = some_node d r.0.from x r.2.0 at in
        subst (λ (y : NodeId). IsInSlice E (Contains seeds) y) same (end.0, end.1, returned E r.0.from n good.end end.0 k e (path_of E n good.end (good.level n refl)) end.2)
      where
        some_node : (d : ExitId) (a b : NodeId) → IsExitAt f d a → IsExitAt f d b → a ≡ b
        some_node d a b x y = same_Some a b (sym x ∙ y)

    module _ (asked_is : p2.asked.items ≡ p1.asked.items) (goes : Goes f p1.found.items p2.found.items p1.queue.items p2.queue.items t1 t2 (FromOne (Follows f Full h n delta) es)) where
      on : (xs : List ExitId) → xs ≡ p1.asked.items → KeepsAsked p.asked.items xs
      on xs e d c = subst (λ (ys : List ExitId). Contains ys d) (sym e) (step.kept d c)

      pairs2 : ArePairs f E ms1 p2
      pairs2 = record {
        edges = s.edges;
        methods = step.pairs.methods;
        found = goes.found;
        queue = goes.queue;
        met = λ m lt. step.pairs.met m (omega (arith, lt, goes.lens m));
        begun = λ d x c at. goes.adds.kept (x.0, number_of f x.0) (step.pairs.begun d x (subst (λ (xs : List ExitId). Contains xs d) asked_is c) at);
        good = λ q u. subst (λ (xs : List ExitId). IsGood f E xs q) (sym asked_is) (elim (goes.adds.only q u) [
          | inl o ↦ step.pairs.good q o
          | inr r ↦ follows_good f E s.edges p1.asked.items h none n delta es (Taken (Has f p1) (Waits f p1)) (λ x b. step.pairs.good (n.0, x) (taken1 x b)) (λ k a. step.pairs.good k a.0) into q r
        ]);
        sub = λ q w. elim (goes.adds.within q w) [ inl o ↦ goes.adds.kept q (step.pairs.sub q o) | inr u ↦ u.0 ];
      }

      pub followed : IsFollowed f E n delta ms1 p p2 t t2
      followed = record {
        pairs = pairs2;
        done = λ left d. done_follows f E s.edges h none p1.found.items p2.found.items n delta es into goes.adds (λ e k r x b. known e k r) (AtNodes left)
            (done_more f E s.edges (Has f p) (Waits f p) (Has f p1) (Waits f p1) (Either (AtNode n delta) (AtNodes left)) step.adds.kept step.adds.fresh step.adds.still d);
        same = same_then p p1 p2 (same_asked p p1 (Contains exits) ms1 t t1 step) (record {
          on = taken_on (Has f p1) (Waits f p1) (Has f p2) (Waits f p2) (FromOne (Follows f Full h n delta) es) goes.adds;
          back = taken_back (Has f p1) (Waits f p1) (Has f p2) (Waits f p2) (FromOne (Follows f Full h n delta) es) goes.adds;
        });
        kept = on p2.asked.items asked_is;
        needed = λ seeds need d x c at. elim (step.only d (subst (λ (xs : List ExitId). Contains xs d) asked_is c)) [ inl o ↦ need d x o at | inr e ↦ new_needed seeds need d x e at ];
        lens = λ m. omega (arith, step.lens m, goes.lens m);
        work = omega (arith, step.work, goes.work);
      }

  -- ---- all pairs of a node are followed once more
  pub again_none : (n : NodeId) (ms : List (Option Method)) (p : Pairs) → ArePairs f E ms p → ((x : ℕ) → Has f p (n.0, x) → ⊥) → IsFollowedAgain f E n ms p p
  again_none n ms p s none = record {
    pairs = s;
    done = λ left d. done_open f E s.edges (Has f p) (Either (Waits f p) (AtNodes (n ∷ left))) (Either (Waits f p) (AtNodes left)) (λ q g o. elim o [
      | inl w ↦ inl w
      | inr r ↦ elim (front_or n r.0 left r.1) [ inl is ↦ absurd (none q.1 (subst (λ (k : ℕ). Has f p (k, q.1)) (r.2 ∙ sym (ap (λ (y : NodeId). y.0) is)) g)) | inr c ↦ inr (r.0, c, r.2) ]
    ]) d;
    same = same_none p;
    kept = λ d c. c;
    needed = λ seeds h. h;
  }

  pub again : (n : NodeId) (delta : List ℕ) (ms : List (Option Method)) (p p' : Pairs) (t t' : ℕ) → AreEdges f E → ((x : ℕ) → IsIn delta x ↔ Taken (Has f p) (Waits f p) (n.0, x)) → ((q : ℕ × ℕ) → Waits f p q ⊎ (Waits f p q → ⊥)) → IsFollowed f E n delta ms p p' t t' → IsFollowedAgain f E n ms p p'
  again n delta ms p p' t t' edges bits decide r = record {
    pairs = r.pairs;
    done = λ left d. r.done left (done_open f E edges (Has f p) (Either (Waits f p) (AtNodes (n ∷ left))) (Either (Waits f p) (Either (AtNode n delta) (AtNodes left))) (λ q g o. elim o [
      | inl w ↦ inl w
      | inr m ↦ elim (front_or n m.0 left m.1) [
        | inr c ↦ inr (inr (m.0, c, m.2))
        | inl is ↦
            let place : q.0 ≡ n.0 = m.2 ∙ sym (ap (λ (y : NodeId). y.0) is) in
            elim (decide q) [ inl w ↦ inl w | inr no_wait ↦ inr (inl (place, (bits q.1).1 (subst (λ (k : ℕ). Taken (Has f p) (Waits f p) (k, q.1)) place (g, no_wait)))) ]
      ]
    ]) d);
    same = r.same;
    kept = r.kept;
    needed = r.needed;
  }

  -- ---- the first node that waits was taken out
  module _ (ms : List (Option Method)) (p p1 : Pairs) (n : NodeId) (delta : List ℕ) (s : ArePairs f E ms p) (asked_is : p1.asked.items ≡ p.asked.items) (x : IsNext f p.found.items p1.found.items p.queue.items p1.queue.items n delta) where
    pub pairs_next : ArePairs f E ms p1
    pairs_next = record {
      edges = s.edges;
      methods = s.methods;
      found = x.found;
      queue = x.queue;
      met = λ m lt. s.met m (omega (arith, lt, x.takes.lens m));
      begun = λ d y c at. x.takes.got (y.0, number_of f y.0) (s.begun d y (subst (λ (xs : List ExitId). Contains xs d) asked_is c) at);
      good = λ q g. subst (λ (xs : List ExitId). IsGood f E xs q) (sym asked_is) (s.good q (x.takes.back q g));
      sub = λ q w. x.takes.got q (s.sub q (x.takes.less q w));
    }

    pub next_taken : IsTakenUp f p1.found.items n delta
    next_taken y b = x.takes.got (n.0, y) (s.sub (n.0, y) (x.takes.found y b))

    module _ (ms1 : List (Option Method)) (p2 : Pairs) (t t2 : ℕ) (d : IsDone f E (Has f p) (Waits f p)) (r : IsFollowed f E n delta ms1 p1 p2 t t2) where
      pub run_done : IsDone f E (Has f p2) (Waits f p2)
      run_done = done_open f E s.edges (Has f p2) (Either (Waits f p2) (AtNodes [])) (Waits f p2) (λ q g o. elim o [ inl w ↦ w | inr c ↦ absurd (omega (arith, c.1.1)) ])
          (r.done [] (done_open f E s.edges (Has f p1) (Either (Waits f p1) (AtNode n delta)) (Either (Waits f p1) (Either (AtNode n delta) (AtNodes []))) (λ q g o. elim o [ inl w ↦ inl w | inr b ↦ inr (inl b) ]) (done_taken f E s.edges p.found.items p1.found.items n delta x.takes d)))

  -- ---- the nodes of a list, one after the other
  abbrev pub Left : Pairs → List NodeId → ℕ × ℕ → Type 0
  Left p nodes = Either (Waits f p) (AtNodes nodes)

  pub done_left : AreEdges f E → (p : Pairs) (a b : List NodeId) → a ≡ b → IsDone f E (Has f p) (Left p a) → IsDone f E (Has f p) (Left p b)
  done_left edges p a b e d = subst (λ (xs : List NodeId). IsDone f E (Has f p) (Left p xs)) e d

  pub done_empty : AreEdges f E → (p : Pairs) → IsDone f E (Has f p) (Left p []) → IsDone f E (Has f p) (Waits f p)
  done_empty edges p d = done_open f E edges (Has f p) (Left p []) (Waits f p) (λ q g o. elim o [ inl w ↦ w | inr c ↦ absurd (omega (arith, c.1.1)) ]) d

  -- ---- nothing waits any more: the same lists in another value
  module _ (ms : List (Option Method)) (p p' : Pairs) (asked_is : p'.asked.items ≡ p.asked.items) (found_is : p'.found.items ≡ p.found.items) (queue_is : p'.queue.items ≡ p.queue.items) where
    got_on : (q : ℕ × ℕ) → Has f p q → Has f p' q
    got_on q g = subst (λ (ts : List Found). Got f ts q) (sym found_is) g

    got_back : (q : ℕ × ℕ) → Has f p' q → Has f p q
    got_back q g = subst (λ (ts : List Found). Got f ts q) found_is g

    todo_on : (q : ℕ × ℕ) → Waits f p q → Waits f p' q
    todo_on q w = subst (λ (ts : List Found). Todo f ts q) (sym found_is) w

    todo_back : (q : ℕ × ℕ) → Waits f p' q → Waits f p q
    todo_back q w = subst (λ (ts : List Found). Todo f ts q) found_is w

    pub taken_same : AreSameTaken f p p'
    taken_same = record { on = λ q t. (got_on q t.0, λ w. t.1 (todo_back q w)); back = λ q t. (got_back q t.0, λ w. t.1 (todo_on q w)) }

    pairs_same : ArePairs f E ms p → ArePairs f E ms p'
    pairs_same s = record {
      edges = s.edges;
      methods = s.methods;
      found = subst (λ (ts : List Found). AreFound f ts) (sym found_is) s.found;
      queue = subst (λ (ts : List Found). IsQueue f ts p'.queue.items) (sym found_is) (subst (λ (ys : List NodeId). IsQueue f p.found.items ys) (sym queue_is) s.queue);
      met = λ m lt. s.met m (subst (λ (ts : List Found). 0 < length (waits_of ts m)) found_is lt);
      begun = λ d x c at. got_on (x.0, number_of f x.0) (s.begun d x (subst (λ (xs : List ExitId). Contains xs d) asked_is c) at);
      good = λ q g. subst (λ (xs : List ExitId). IsGood f E xs q) (sym asked_is) (s.good q (got_back q g));
      sub = λ q w. got_on q (s.sub q (todo_back q w));
    }

    pub whole_end : p.queue.items ≡ [] → ArePairs f E ms p → IsDone f E (Has f p) (Waits f p) → AreWhole f E ms p'
    whole_end none s d = record {
      pairs = pairs_same s;
      idle = queue_is ∙ none;
      done = subst (λ (ts : List Found). IsDone f E (Got f ts) (λ _. ⊥)) (sym found_is) (done_open f E s.edges (Has f p) (Waits f p) (λ _. ⊥) (λ q g w. no_wait q w) d);
    }
      where
        no_wait : (q : ℕ × ℕ) → Waits f p q → ⊥
        no_wait q w =
            let n : NodeId = record { 0 = q.0 } in
            let k = s.queue.queued q.0 w.0 (s.found.waiting q w) in
            let nobody : Contains [] n = subst (λ (xs : List NodeId). Contains xs n) none k in
            omega (arith, nobody.1)

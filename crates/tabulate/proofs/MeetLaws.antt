-- Exits that are asked for, and rows that come to hand.
use Rattle.std.proofs.Common.{◌≡◌, ◌≢◌, ◌<◌, ℕ, List, [], ◌∷◌, ◌++◌, length, reverse, Contains, Option, Some, None, ◌⊎◌, inl, inr, refl, sym, subst, ap, ◌∙◌, arith}
use Rattle.std.specs.Prelude.{slice_get, MatchOption, IfOk, Result, Ok}
use Rattle.std.proofs.lemmas.Bool.{cases_eq}
use Rattle.std.proofs.lemmas.Option.{same_Some}
use Rattle.std.proofs.lemmas.List.Elements.{Contains-append_left, Contains-push, Contains-push_cases, Contains-get_or}
use Rattle.std.proofs.lemmas.List.{reverse-append}
use Rattle.std.proofs.lemmas.List.Quantifiers.{all_pairs_push}
use Rattle.std.proofs.lemmas.List.Sorted.{Contains-permutation, IsPermutation-reverse}
use Rattle.bit_rows.specs.Adds.{Taken}
use Rattle.bit_rows.proofs.Adding.{adds_none, adds_then}
use Rattle.slicer_ids.specs.declared.ids.NodeId.{NodeId}
use Rattle.slicer_ids.specs.declared.ids.ExitId.{ExitId}
use Rattle.slicer_ids.specs.declared.ids.Mode.{Mode}
use Rattle.slicer_ids.specs.Derivations.{IsDerivation}
use Rattle.dep_form.specs.declared.facts.Facts.{Facts}
use Rattle.dep_form.specs.Phases.{Level, stay}
use Rattle.dep_form.specs.Slices.{ModeEdges}
use Rattle.dep_form.specs.Summaries.{IsExitAt, IsRow}
use Rattle.tabulate.specs.declared.found.Found.{Found}
use Rattle.tabulate.specs.declared.hands.Hands.{Hands}
use Rattle.tabulate.specs.declared.method.Method.{Method}
use Rattle.tabulate.specs.Frames.{method_of, number_of, exits_before}
use Rattle.tabulate.specs.Methods.{AreMethods, IsMet, IsMetAs}
use Rattle.tabulate.specs.Hands.{hand_of, IsPut}
use Rattle.tabulate.specs.Found.{Got, Todo, Goes, waits_of}
use Rattle.tabulate.specs.Rules.{Asks}
use Rattle.tabulate.specs.States.{IsGood, IsAskStep, AsksAny, Meets, Holds, Demands, IsKnown, MeetStep}
use Rattle.tabulate.proofs.Placing.{one_exit, is_exit, exit_place}
use Rattle.tabulate.proofs.ModeEdges.{exit_low, level_method}

module _ (p : Facts) where
  got_of_asks : (ts : List Found) (asked : List ExitId) → ((d : ExitId) (x : NodeId) → Contains asked d → IsExitAt p d x → Got p ts (x.0, number_of p x.0)) → (K : ℕ × ℕ → Type 0) (q : ℕ × ℕ) → AsksAny p asked K q → Got p ts q
  got_of_asks ts asked begun K q (d, x, c, at, a) = subst (λ (n : ℕ). Got p ts (n, q.1)) (sym a.0) (subst (λ (n : ℕ). Got p ts (x.0, n)) (sym a.1) (begun d x c at))

  pub meets_none : (h : Hands) (asked : List ExitId) (ts : List Found) → ((d : ExitId) (x : NodeId) → Contains asked d → IsExitAt p d x → Got p ts (x.0, number_of p x.0)) → Meets p h h asked asked ts ts
  meets_none h asked ts begun = record { adds = adds_none (Got p ts) (Todo p ts) (AsksAny p asked) (got_of_asks ts asked begun (Taken (Got p ts) (Todo p ts))); more = λ d c. c; hands = λ d bits e. e }

  pub meets_then : (h h1 h2 : Hands) (asked asked1 asked2 : List ExitId) (ts ts1 ts2 : List Found) → Meets p h h1 asked asked1 ts ts1 → Meets p h1 h2 asked1 asked2 ts1 ts2 → Meets p h h2 asked asked2 ts ts2
  meets_then h h1 h2 asked asked1 asked2 ts ts1 ts2 a b = record {
    adds = adds_then (Got p ts) (Todo p ts) (Got p ts1) (Todo p ts1) (Got p ts2) (Todo p ts2) (AsksAny p asked1) (AsksAny p asked2) (AsksAny p asked2) (λ K L f x r. r) (λ K x r. inr r)
        (λ K x r. elim r [ inl u ↦ (u.0, u.1, b.more u.0 u.2, u.3, u.4) | inr v ↦ v ]) a.adds b.adds;
    more = λ d c. b.more d (a.more d c);
    hands = λ d bits e. b.hands d bits (a.hands d bits e);
  }

  module _ (mode : Mode) where
    pub good_more : (asked asked' : List ExitId) → ((d : ExitId) → Contains asked d → Contains asked' d) → (q : ℕ × ℕ) → IsGood p mode asked q → IsGood p mode asked' q
    good_more asked asked' more q g = record { to = g.to; end = g.end; exit = g.exit; number = g.number; was_asked = more g.to g.was_asked; level = g.level }

    good_exit : (asked : List ExitId) (d : ExitId) (x : NodeId) → IsExitAt p d x → Contains asked d → (q : ℕ × ℕ) (K : ℕ × ℕ → Type 0) → Asks p x.0 K q → IsGood p mode asked q
    good_exit asked d x at c q K a = record { to = d; end = x; exit = at; number = a.1; was_asked = c; level = λ from is. subst (λ (n : NodeId). Level (ModeEdges p.inputs mode) n x) (sym (same from (is ∙ a.0))) stay }
      where
        same : (from : NodeId) → from.0 ≡ x.0 → from ≡ x
        same from e = ap (λ (n : ℕ). record { 0 = n }) e

    -- the methods, and what the rows surely have, grow
    module _ (e : ExitId → Type 0) (Has Has' : ExitId → Type 0) (has : (d : ExitId) → Has d → Has' d) (ms ms' : List (Option Method)) (are : AreMethods p ms') (kept : (k : ℕ) (x : Method) → IsMetAs ms k x → IsMetAs ms' k x) (h : Hands) (asked : List ExitId) (ts : List Found) (queue : List NodeId) (s : Holds p mode e Has ms h asked ts queue) where
      pub holds_on : Holds p mode e Has' ms' h asked ts queue
      holds_on = record {
        found = s.found;
        in_queue = s.in_queue;
        methods = are;
        met = λ m lt. let x = s.met m lt in (x.0, kept m x.0 x.1);
        exits = s.exits;
        begun = s.begun;
        hands = record { rows = s.hands.rows; known = λ d bits o. has d (s.hands.known d bits o); met = λ d x bits o at. let y = s.hands.met d x bits o at in (y.0, kept (method_of p x.0) y.0 y.1) };
        good = s.good;
      }

    -- a row came to hand
    module _ (e : ExitId → Type 0) (Has : ExitId → Type 0) (ms : List (Option Method)) (h h' : Hands) (asked : List ExitId) (ts : List Found) (queue : List NodeId) (s : Holds p mode e Has ms h asked ts queue)
        (d : ExitId) (x : NodeId) (at : IsExitAt p d x) (met : IsMet ms (method_of p x.0)) (bits : List ℕ) (put : IsPut h h' d.0 bits) (row : IsRow p mode d bits) (sure : Has d) (not_asked : Contains asked d → ⊥) (no_hand : hand_of h d.0 ≡ None) where
      same_exit : (c : ExitId) → c.0 ≡ d.0 → c ≡ d
      same_exit c e = ap (λ (n : ℕ). record { 0 = n }) e

      old_hand : (c : ExitId) (b : List ℕ) → hand_of h' c.0 ≡ Some b → ((c ≡ d) × (b ≡ bits)) ⊎ (hand_of h c.0 ≡ Some b)
      old_hand c b o = elim (cases_eq c.0 d.0) [
        | inl is ↦ inl (same_exit c is, same_Some b bits (sym o ∙ ap (hand_of h') is ∙ put.0))
        | inr ne ↦ inr (sym (put.1 c.0 ne) ∙ o)
      ]

      pub holds_put : Holds p mode e Has ms h' asked ts queue
      holds_put = record {
        found = s.found;
        in_queue = s.in_queue;
        methods = s.methods;
        met = s.met;
        exits = record {
          once = s.exits.once;
          derived = s.exits.derived;
          apart = λ c k. elim (cases_eq c.0 d.0) [ inl is ↦ absurd (not_asked (subst (λ (y : ExitId). Contains asked y) (same_exit c is) k)) | inr ne ↦ put.1 c.0 ne ∙ s.exits.apart c k ];
          exits = s.exits.exits;
        };
        begun = s.begun;
        hands = record {
          rows = λ c b o. elim (old_hand c b o) [ inl n ↦ subst (λ (y : ExitId). IsRow p mode y b) (sym n.0) (subst (λ (xs : List ℕ). IsRow p mode d xs) (sym n.1) row) | inr k ↦ s.hands.rows c b k ];
          known = λ c b o. elim (old_hand c b o) [ inl n ↦ subst Has (sym n.0) sure | inr k ↦ s.hands.known c b k ];
          met = λ c y b o z. elim (old_hand c b o) [
            | inl n ↦
                let here : y ≡ x = same_Some y x (sym z ∙ ap (λ (w : ExitId). slice_get p.exits w.0) n.0 ∙ at) in
                subst (λ (w : NodeId). IsMet ms (method_of p w.0)) (sym here) met
            | inr k ↦ s.hands.met c y b k z
          ];
        };
        good = s.good;
      }

      pub meets_put : Meets p h h' asked asked ts ts
      meets_put = record {
        adds = (meets_none h asked ts s.begun).adds;
        more = λ c k. k;
        hands = λ c b o. elim (cases_eq c.0 d.0) [ inl is ↦ absurd (apart b (sym o ∙ ap (hand_of h) is ∙ no_hand)) | inr ne ↦ put.1 c.0 ne ∙ o ];
      }
        where
          apart : (b : List ℕ) → Some b ≡ None → ⊥
          apart b e = absurd cc

    -- an exit was asked for
    module _ (e : ExitId → Type 0) (Has : ExitId → Type 0) (ms : List (Option Method)) (h : Hands) (asked : List ExitId) (ts ts' : List Found) (queue queue' : List NodeId) (st st' : ℕ) (s : Holds p mode e Has ms h asked ts queue)
        (d : ExitId) (x : NodeId) (at : IsExitAt p d x) (met : IsMet ms (method_of p x.0)) (low : d.0 < length p.exits) (demanded : Demands p mode e (Contains asked) d) (not_asked : Contains asked d → ⊥) (no_hand : hand_of h d.0 ≡ None)
        (step : IsAskStep p d ts ts' queue queue' st st') (lens : (m : ℕ) → (m ≡ method_of p x.0 → ⊥) → length (waits_of ts' m) ≡ length (waits_of ts m)) where
      abbrev asked' : List ExitId
      asked' = asked ++ d ∷ []

      old : (c : ExitId) → Contains asked c → Contains asked' c
      old c k = Contains-append_left asked (d ∷ []) c k

      abbrev g : Goes p step.opened ts' queue queue' st st' (Asks p x.0)
      g = step.goes x at

      back : (c : ExitId) → Contains asked c → Contains (reverse asked) c
      back c k = Contains-permutation asked (reverse asked) c (IsPermutation-reverse asked) k

      demand_on : Demands p mode e (Contains asked) d → Demands p mode e (Contains (reverse asked)) d
      demand_on (inl is) = inl is
      demand_on (inr m) = inr (m.0, m.1, m.2, m.3, m.4, m.5, (back m.3 m.6.0, m.6.1, m.6.2, m.6.3))

      turned : reverse asked' ≡ d ∷ reverse asked
      turned = reverse-append asked (d ∷ [])

      pub holds_asked : Holds p mode e Has ms h asked' ts' queue'
      holds_asked = record {
        found = g.found;
        in_queue = g.queue;
        methods = s.methods;
        met = λ m lt. elim (cases_eq m (method_of p x.0)) [ inl is ↦ subst (λ (k : ℕ). IsMet ms k) (sym is) met | inr ne ↦ s.met m (omega (arith, lt, lens m ne)) ];
        exits = record {
          once = all_pairs_push (λ (a b : ExitId). a ≢ b) asked d s.exits.once (λ k f lt is. not_asked (subst (λ (y : ExitId). Contains asked y) is (Contains-get_or asked k f lt)));
          derived = subst (λ (xs : List ExitId). IsDerivation (Demands p mode e) xs) (sym turned) (demand_on demanded, s.exits.derived);
          apart = λ c k. elim (Contains-push_cases asked d c k) [ inl o ↦ s.exits.apart c o | inr is ↦ subst (λ (y : ExitId). hand_of h y.0 ≡ None) is no_hand ];
          exits = λ c k. elim (Contains-push_cases asked d c k) [ inl o ↦ s.exits.exits c o | inr is ↦ subst (λ (y : ExitId). y.0 < length p.exits) is low ];
        };
        begun = λ c y k z. elim (Contains-push_cases asked d c k) [
          | inl o ↦ g.adds.kept (y.0, number_of p y.0) (step.same.got (y.0, number_of p y.0) (s.begun c y o z))
          | inr is ↦
              let here : x ≡ y = same_Some x y (sym at ∙ ap (λ (w : ExitId). slice_get p.exits w.0) is ∙ z) in
              subst (λ (w : NodeId). Got p ts' (w.0, number_of p w.0)) here (g.adds.all (x.0, number_of p x.0) (refl, refl))
        ];
        hands = s.hands;
        good = λ q u. elim (g.adds.only q u) [
          | inl o ↦ good_more asked asked' old q (s.good q (step.same.got_back q o))
          | inr a ↦ good_exit asked' d x at (Contains-push asked d) q (Taken (Got p step.opened) (Todo p step.opened)) a
        ];
      }

      pub meets_asked : Meets p h h asked asked' ts ts'
      meets_asked = record {
        adds = record {
          kept = λ q u. g.adds.kept q (step.same.got q u);
          all = λ q r. got_of_asks ts' asked' holds_asked.begun (Taken (Got p ts) (Todo p ts)) q r;
          only = λ q u. elim (g.adds.only q u) [ inl o ↦ inl (step.same.got_back q o) | inr a ↦ inr (d, x, Contains-push asked d, at, a) ];
          fresh = λ q u. elim (g.adds.fresh q u) [ inl o ↦ inl (step.same.got_back q o) | inr t ↦ inr t ];
          still = λ q t. g.adds.still q (step.same.todo q t);
          within = λ q t. elim (g.adds.within q t) [ inl o ↦ inl (step.same.todo_back q o) | inr u ↦ inr (u.0, λ o. u.1 (step.same.got q o)) ];
        };
        more = old;
        hands = λ c b o. o;
      }

    -- an exit with its pair was asked for
    pub asked_by_pair : (asked : List ExitId) (d : ExitId) (x : NodeId) → IsExitAt p d x → IsGood p mode asked (x.0, number_of p x.0) → Contains asked d
    asked_by_pair asked d x at g =
        let xl = exit_low p d x at in
        let el = exit_low p g.to g.end g.exit in
        let own = level_method p mode (g.level x refl) in
        let same = one_exit p x.0 g.end.0 (is_exit p d x at xl) (is_exit p g.to g.end g.exit el) own g.number in
        let place : d.0 ≡ g.to.0 = sym (exit_place p d x at) ∙ ap (exits_before p) same ∙ exit_place p g.to g.end g.exit in
        subst (λ (y : ExitId). Contains asked y) (ap (λ (n : ℕ). record { 0 = n }) (sym place)) g.was_asked

    module _ (e : ExitId → Type 0) (Had Has : ExitId → Type 0) (ms : List (Option Method)) (h : Hands) (asked : List ExitId) (ts : List Found) (queue : List NodeId) (st : ℕ) where
      -- nothing changed
      pub step_none : (First : ExitId → Type 0) → Holds p mode e Has ms h asked ts queue → ((d : ExitId) → First d → IsKnown h asked d) → MeetStep p mode e Had Has First ms h h asked asked ts ts queue queue st st
      step_none First s known = record { holds = s; meets = meets_none h asked ts s.begun; known = known; wanting = λ d c. inl c; work = omega arith }

      -- a row came to hand
      pub step_put : (h' : Hands) (d : ExitId) (x : NodeId) → Holds p mode e Has ms h asked ts queue → IsExitAt p d x → IsMet ms (method_of p x.0) → (bits : List ℕ) → IsPut h h' d.0 bits → IsRow p mode d bits → Has d → (Contains asked d → ⊥) → hand_of h d.0 ≡ None
          → MeetStep p mode e Had Has (λ c. c ≡ d) ms h h' asked asked ts ts queue queue st st
      step_put h' d x s at met bits put row sure not_asked no_hand = record {
        holds = holds_put e Has ms h h' asked ts queue s d x at met bits put row sure not_asked no_hand;
        meets = meets_put e Has ms h h' asked ts queue s d x at met bits put row sure not_asked no_hand;
        known = λ c is. subst (λ (y : ExitId). IsKnown h' asked y) (sym is) (inr (bits, put.0));
        wanting = λ c k. inl k;
        work = omega arith;
      }

      -- an exit was asked for
      pub step_asked : (ts' : List Found) (queue' : List NodeId) (st' : ℕ) (d : ExitId) (x : NodeId) → Holds p mode e Has ms h asked ts queue → IsExitAt p d x → IsMet ms (method_of p x.0) → d.0 < length p.exits → Demands p mode e (Contains asked) d → (Contains asked d → ⊥) → hand_of h d.0 ≡ None
          → IsAskStep p d ts ts' queue queue' st st' → ((m : ℕ) → (m ≡ method_of p x.0 → ⊥) → length (waits_of ts' m) ≡ length (waits_of ts m)) → (Had d → ⊥)
          → MeetStep p mode e Had Has (λ c. c ≡ d) ms h h asked (asked ++ d ∷ []) ts ts' queue queue' st st'
      step_asked ts' queue' st' d x s at met low demanded not_asked no_hand step lens wants = record {
        holds = holds_asked e Has ms h asked ts ts' queue queue' st st' s d x at met low demanded not_asked no_hand step lens;
        meets = meets_asked e Has ms h asked ts ts' queue queue' st st' s d x at met low demanded not_asked no_hand step lens;
        known = λ c is. inl (subst (λ (y : ExitId). Contains (asked ++ d ∷ []) y) (sym is) (Contains-push asked d));
        wanting = λ c k. elim (Contains-push_cases asked d c k) [ inl o ↦ inl o | inr is ↦ inr (λ had. wants (subst Had (sym is) had)) ];
        work = (step.goes x at).work;
      }

    -- one step after another
    pub step_then : (e : ExitId → Type 0) (Had Had1 Has1 Has : ExitId → Type 0) (First Second Both : ExitId → Type 0) (ms1 ms : List (Option Method)) (h h1 h2 : Hands) (asked asked1 asked2 : List ExitId) (ts ts1 ts2 : List Found) (q q1 q2 : List NodeId) (st st1 st2 : ℕ)
        → ((d : ExitId) → Had d → Had1 d) → ((d : ExitId) → Both d → First d ⊎ Second d)
        → MeetStep p mode e Had Has1 First ms1 h h1 asked asked1 ts ts1 q q1 st st1 → MeetStep p mode e Had1 Has Second ms h1 h2 asked1 asked2 ts1 ts2 q1 q2 st1 st2 → MeetStep p mode e Had Has Both ms h h2 asked asked2 ts ts2 q q2 st st2
    step_then e Had Had1 Has1 Has First Second Both ms1 ms h h1 h2 asked asked1 asked2 ts ts1 ts2 q q1 q2 st st1 st2 had cases a b = record {
      holds = b.holds;
      meets = meets_then h h1 h2 asked asked1 asked2 ts ts1 ts2 a.meets b.meets;
      known = λ d k. elim (cases d k) [
        | inl o ↦ elim (a.known d o) [ inl c ↦ inl (b.meets.more d c) | inr t ↦ inr (t.0, b.meets.hands d t.0 t.1) ]
        | inr n ↦ b.known d n
      ];
      wanting = λ d c. elim (b.wanting d c) [ inl o ↦ a.wanting d o | inr n ↦ inr (λ k. n (had d k)) ];
      work = omega (arith, a.work, b.work);
    }

pub match_some : {A : Type 0} (P : Type 0) (Q : A → Type 0) (o : Option A) (x : A) → o ≡ Some x → MatchOption o P Q → Q x
match_some {A} P Q o x e m = subst (λ (y : Option A). MatchOption y P Q) e m

pub match_none : {A : Type 0} (P : Type 0) (Q : A → Type 0) (o : Option A) → o ≡ None → MatchOption o P Q → P
match_none {A} P Q o e m = subst (λ (y : Option A). MatchOption y P Q) e m

pub if_ok : {A B : Type 0} (P : A → Type 0) (r : Result A B) (x : A) → r ≡ Ok x → IfOk r P → P x
if_ok {A} {B} P r x e h = subst (λ (y : Result A B). IfOk y P) e h

-- what some exits demand, more exits demand
pub demands_more : (p : Facts) (mode : Mode) (e : ExitId → Type 0) (asked asked' : List ExitId) → ((d : ExitId) → Contains asked d → Contains asked' d) → (d : ExitId) → Demands p mode e (Contains asked) d → Demands p mode e (Contains asked') d
demands_more p mode e asked asked' more d (inl is) = inl is
demands_more p mode e asked asked' more d (inr m) = inr (m.0, m.1, m.2, m.3, m.4, m.5, (more m.3 m.6.0, m.6.1, m.6.2, m.6.3))

-- Exits that are asked for.
use Rattle.std.proofs.Common.{◌≡◌, ℕ, List, [], ◌∷◌, ◌++◌, length, Contains, Option, ◌⊎◌, inl, inr, refl, sym, subst, ap, ◌∙◌, arith}
use Rattle.std.specs.Prelude.{slice_get}
use Rattle.std.proofs.lemmas.Bool.{cases_eq}
use Rattle.std.proofs.lemmas.Option.{same_Some}
use Rattle.std.proofs.lemmas.List.Elements.{Contains-append_left, Contains-push, Contains-push_cases}
use Rattle.bit_rows.specs.Adds.{Taken}
use Rattle.bit_rows.proofs.Adding.{adds_none, adds_then}
use Rattle.slicer_ids.specs.declared.ids.NodeId.{NodeId}
use Rattle.slicer_ids.specs.declared.ids.ExitId.{ExitId}
use Rattle.dep_form.specs.declared.facts.Facts.{Facts}
use Rattle.dep_form.specs.declared.node.Edge.{Edge}
use Rattle.dep_form.specs.Phases.{Level, stay}
use Rattle.dep_form.specs.Summaries.{IsExitAt}
use Rattle.tabulate.specs.declared.method.Method.{Method}
use Rattle.tabulate.specs.Frames.{method_of, number_of, exits_before}
use Rattle.tabulate.specs.Methods.{AreMethods, IsMet}
use Rattle.tabulate.specs.Found.{Got, Todo, Goes, waits_of}
use Rattle.tabulate.specs.Rules.{Asks}
use Rattle.tabulate.specs.States.{IsAskStep, AsksAny}
use Rattle.tabulate.proofs.Placing.{one_exit, is_exit, exit_place}
use Rattle.tabulate.proofs.ModeEdges.{exit_low}
use Rattle.widening.specs.declared.pairs.Pairs.{Pairs}
use Rattle.widening.specs.Edges.{AreEdges}
use Rattle.widening.specs.Pairs.{Has, Waits, IsGood, ArePairs, IsAskedStep, KeepsMet, KeepsAsked}
use Rattle.widening.proofs.EdgeSets.{level_home}
use Rattle.widening.proofs.PairLaws.{same_node}

module _ (f : Facts) (E : Edge → Type 0) where
  got_of_asks : (p : Pairs) → ((d : ExitId) (x : NodeId) → Contains p.asked.items d → IsExitAt f d x → Has f p (x.0, number_of f x.0)) → (K : ℕ × ℕ → Type 0) (q : ℕ × ℕ) → AsksAny f p.asked.items K q → Has f p q
  got_of_asks p begun K q (d, x, c, at, a) = subst (λ (n : ℕ). Has f p (n, q.1)) (sym a.0) (subst (λ (n : ℕ). Has f p (x.0, n)) (sym a.1) (begun d x c at))

  pub good_more : (asked asked' : List ExitId) → KeepsAsked asked asked' → (q : ℕ × ℕ) → IsGood f E asked q → IsGood f E asked' q
  good_more asked asked' more q g = record { to = g.to; end = g.end; exit = g.exit; number = g.number; was_asked = more g.to g.was_asked; level = g.level }

  good_exit : (asked : List ExitId) (d : ExitId) (x : NodeId) → IsExitAt f d x → Contains asked d → (q : ℕ × ℕ) (K : ℕ × ℕ → Type 0) → Asks f x.0 K q → IsGood f E asked q
  good_exit asked d x at c q K a = record { to = d; end = x; exit = at; number = a.1; was_asked = c; level = λ from is. subst (λ (n : NodeId). Level E n x) (sym (same_node from x (is ∙ a.0))) stay }

  -- more methods are met
  pub pairs_on : (ms ms' : List (Option Method)) (p : Pairs) → AreMethods f ms' → KeepsMet ms ms' → ArePairs f E ms p → ArePairs f E ms' p
  pairs_on ms ms' p are kept s = record {
    edges = s.edges;
    methods = are;
    found = s.found;
    queue = s.queue;
    met = λ m lt. let x = s.met m lt in (x.0, kept m x.0 x.1);
    begun = s.begun;
    good = s.good;
    sub = s.sub;
  }

  -- nothing changed
  pub step_none : (D : ExitId → Type 0) (ms : List (Option Method)) (p : Pairs) (t : ℕ) → ArePairs f E ms p → ((d : ExitId) → D d → Contains p.asked.items d) → IsAskedStep f E D ms p p t t
  step_none D ms p t s known = record {
    pairs = s;
    adds = adds_none (Has f p) (Waits f p) (AsksAny f p.asked.items) (got_of_asks p s.begun (Taken (Has f p) (Waits f p)));
    kept = λ d c. c;
    asked = known;
    only = λ d c. inl c;
    lens = λ m. omega arith;
    work = omega arith;
  }

  -- an exit was asked for
  module _ (ms : List (Option Method)) (p p' : Pairs) (t t' : ℕ) (s : ArePairs f E ms p) (d : ExitId) (x : NodeId) (at : IsExitAt f d x) (met : IsMet ms (method_of f x.0)) (asked_is : p'.asked.items ≡ p.asked.items ++ d ∷ [])
      (step : IsAskStep f d p.found.items p'.found.items p.queue.items p'.queue.items t t') (others : (m : ℕ) → (m ≡ method_of f x.0 → ⊥) → length (waits_of p'.found.items m) ≡ length (waits_of p.found.items m)) where
    abbrev g : Goes f step.opened p'.found.items p.queue.items p'.queue.items t t' (Asks f x.0)
    g = step.goes x at

    cases : (c : ExitId) → Contains p'.asked.items c → Contains p.asked.items c ⊎ (c ≡ d)
    cases c k = elim (Contains-push_cases p.asked.items d c (subst (λ (xs : List ExitId). Contains xs c) asked_is k)) [ inl o ↦ inl o | inr is ↦ inr (sym is) ]

    old : KeepsAsked p.asked.items p'.asked.items
    old c k = subst (λ (xs : List ExitId). Contains xs c) (sym asked_is) (Contains-append_left p.asked.items (d ∷ []) c k)

    new : Contains p'.asked.items d
    new = subst (λ (xs : List ExitId). Contains xs d) (sym asked_is) (Contains-push p.asked.items d)

    pub pairs_asked : ArePairs f E ms p'
    pairs_asked = record {
      edges = s.edges;
      methods = s.methods;
      found = g.found;
      queue = g.queue;
      met = λ m lt. elim (cases_eq m (method_of f x.0)) [ inl is ↦ subst (λ (k : ℕ). IsMet ms k) (sym is) met | inr ne ↦ s.met m (omega (arith, lt, others m ne)) ];
      begun = λ c y k z. elim (cases c k) [
        | inl o ↦ g.adds.kept (y.0, number_of f y.0) (step.same.got (y.0, number_of f y.0) (s.begun c y o z))
        | inr is ↦
            let here : x ≡ y = same_Some x y (sym at ∙ ap (λ (w : ExitId). slice_get f.exits w.0) (sym is) ∙ z) in
            subst (λ (w : NodeId). Has f p' (w.0, number_of f w.0)) here (g.adds.all (x.0, number_of f x.0) (refl, refl))
      ];
      good = λ q u. elim (g.adds.only q u) [
        | inl o ↦ good_more p.asked.items p'.asked.items old q (s.good q (step.same.got_back q o))
        | inr a ↦ good_exit p'.asked.items d x at new q (Taken (Got f step.opened) (Todo f step.opened)) a
      ];
      sub = λ q w. elim (g.adds.within q w) [ inl o ↦ g.adds.kept q (step.same.got q (s.sub q (step.same.todo_back q o))) | inr u ↦ u.0 ];
    }

    pub step_asked : IsAskedStep f E (λ c. c ≡ d) ms p p' t t'
    step_asked = record {
      pairs = pairs_asked;
      adds = record {
        kept = λ q u. g.adds.kept q (step.same.got q u);
        all = λ q r. got_of_asks p' pairs_asked.begun (Taken (Has f p) (Waits f p)) q r;
        only = λ q u. elim (g.adds.only q u) [ inl o ↦ inl (step.same.got_back q o) | inr a ↦ inr (d, x, new, at, a) ];
        fresh = λ q u. elim (g.adds.fresh q u) [ inl o ↦ inl (step.same.got_back q o) | inr w ↦ inr w ];
        still = λ q w. g.adds.still q (step.same.todo q w);
        within = λ q w. elim (g.adds.within q w) [ inl o ↦ inl (step.same.todo_back q o) | inr u ↦ inr (u.0, λ o. u.1 (step.same.got q o)) ];
      };
      kept = old;
      asked = λ c is. subst (λ (y : ExitId). Contains p'.asked.items y) (sym is) new;
      only = λ c k. cases c k;
      lens = λ m. elim (s.found.shape m) [ inl z ↦ omega (arith, z) | inr o ↦ omega (arith, o, step.same.stays m o, g.lens m) ];
      work = g.work;
    }

  -- an exit with its pair was asked for
  pub asked_by_pair : AreEdges f E → (asked : List ExitId) (d : ExitId) (x : NodeId) → IsExitAt f d x → IsGood f E asked (x.0, number_of f x.0) → Contains asked d
  asked_by_pair edges asked d x at g =
      let xl = exit_low f d x at in
      let el = exit_low f g.to g.end g.exit in
      let own = level_home f E edges (g.level x refl) in
      let same = one_exit f x.0 g.end.0 (is_exit f d x at xl) (is_exit f g.to g.end g.exit el) own g.number in
      let place : d.0 ≡ g.to.0 = sym (exit_place f d x at) ∙ ap (exits_before f) same ∙ exit_place f g.to g.end g.exit in
      subst (λ (y : ExitId). Contains asked y) (ap (λ (n : ℕ). record { 0 = n }) (sym place)) g.was_asked

  -- one step after another
  pub step_then : (First Second Both : ExitId → Type 0) (ms1 ms : List (Option Method)) (p p1 p2 : Pairs) (t t1 t2 : ℕ) → ((d : ExitId) → Both d → First d ⊎ Second d) → ((d : ExitId) → First d ⊎ Second d → Both d)
      → IsAskedStep f E First ms1 p p1 t t1 → IsAskedStep f E Second ms p1 p2 t1 t2 → IsAskedStep f E Both ms p p2 t t2
  step_then First Second Both ms1 ms p p1 p2 t t1 t2 to from a b = record {
    pairs = b.pairs;
    adds = adds_then (Has f p) (Waits f p) (Has f p1) (Waits f p1) (Has f p2) (Waits f p2) (AsksAny f p1.asked.items) (AsksAny f p2.asked.items) (AsksAny f p2.asked.items) (λ K L m x r. r) (λ K x r. inr r)
        (λ K x r. elim r [ inl u ↦ (u.0, u.1, b.kept u.0 u.2, u.3, u.4) | inr v ↦ v ]) a.adds b.adds;
    kept = λ d c. b.kept d (a.kept d c);
    asked = λ d k. elim (to d k) [ inl o ↦ b.kept d (a.asked d o) | inr n ↦ b.asked d n ];
    only = λ d c. elim (b.only d c) [ inl o ↦ elim (a.only d o) [ inl z ↦ inl z | inr k ↦ inr (from d (inl k)) ] | inr k ↦ inr (from d (inr k)) ];
    lens = λ m. omega (arith, a.lens m, b.lens m);
    work = omega (arith, a.work, b.work);
  }
